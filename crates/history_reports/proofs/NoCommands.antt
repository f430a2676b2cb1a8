-- Where no lane has a command, the legal histories are those of the script without lanes.
use Rattle.std.proofs.Common.{◌≡◌, ℕ, suc, ◌+◌, ◌<◌, ◌≤◌, ◌++◌, Bool, true, false, cond, List, [], ◌∷◌, Option, Some, None, length, filter, refl, sym, ap, subst, ◌∙◌, arith, ⊎_elim}
use Rattle.std.specs.Prelude.{IsSome}
use Rattle.std.specs.List.{AllByRecursion}
use Rattle.std.proofs.lemmas.Bool.{cases_eq, cases_lt, eq-eqb}
use Rattle.event_words.specs.declared.shape.Shape.{Shape}
use Rattle.event_words.specs.declared.event.Event.{Event}
use Rattle.event_words.specs.declared.reply.Reply.{Reply}
use Rattle.event_words.specs.declared.record.LoggedEvent.{LoggedEvent}
use Rattle.event_words.specs.declared.record.SectionEnd.TheVariants.{Done}
use Rattle.event_words.specs.Word.{event_of_word}
use Rattle.event_words.specs.Events.{caller_of}
use Rattle.event_words.specs.Runs.{caller_of_word, IsEventWord, logged_from, logged_first}
use Rattle.event_words.specs.Sections.{SectionOf}
use Rattle.event_words.specs.Records.{end_of_commands, nothing_left, events_by, is_by}
use Rattle.event_words.proofs.Runs.{caller_of_word-word_of, event_of_word-word_of}
use Rattle.unit_core.specs.Units.{FabricState, fabric_at_reset}
use Rattle.unit_core.specs.Fabrics.{state_after_word, reply_to_word}
use Rattle.unit_core.specs.Histories.{IsOfLane, HasRecord, HaveRecords, IsLegalHistory, logged_in}
use Rattle.event_words.proofs.EventWords.{word_event}
use Rattle.history_laws.specs.OneHistory.{LawOneHistory}
use Rattle.history_reports.specs.ReportedRuns.{HasNoCommands}

-- ---- a lane without commands makes no event

none_left : (xs : List LoggedEvent) → IsSome (nothing_left Done xs) → xs ≡ []
none_left [] h = refl
none_left (x ∷ xs) h = absurd (let n : false ≡ true = h in cc)

none_by : (xs : List LoggedEvent) (c : ℕ) (s : SectionOf) → HasNoCommands s → HasRecord xs c s → events_by c xs ≡ []
none_by xs c s none h = none_left (events_by c xs) (subst (λ cs. IsSome (end_of_commands c cs [] (events_by c xs))) none h)

none_of : (xs : List LoggedEvent) (i : ℕ) (ss : List SectionOf) → HaveRecords xs i ss → AllByRecursion HasNoCommands ss → (c : ℕ) → i ≤ c → c < i + length ss → events_by c xs ≡ []
none_of xs i [] records none c l u = absurd (omega arith)
none_of xs i (s ∷ ss) records none c l u = ⊎_elim
    (λ (e : i ≡ c). subst (λ n. events_by n xs ≡ []) e (none_by xs i s none.0 records.0))
    (λ (ne : i ≡ c → ⊥). let less : i + 1 ≤ c = ⊎_elim (λ (a : i < c). omega arith) (λ (b : c ≤ i). absurd (ne (omega arith))) (cases_lt i c) in none_of xs (i + 1) ss records.1 none.1 c less (omega arith))
    (cases_eq i c)

-- ---- a caller without events bears no word

split : (b : Bool) (x : LoggedEvent) (ys zs : List LoggedEvent) → cond b (x ∷ ys) zs ≡ [] → (b ≡ false) × (zs ≡ [])
split true x ys zs h = absurd cc
split false x ys zs h = (refl, h)

first_of : (c k : ℕ) (r : Reply) (o : Option Event) (e : Event) (xs : List LoggedEvent) → o ≡ Some e → events_by c (logged_first k r o xs) ≡ [] → (caller_of e ≡ c → ⊥) × (events_by c xs ≡ [])
first_of c k r None e xs p h = absurd cc
first_of c k r (Some d) e xs p h =
    let x : LoggedEvent = record { place = k; event = d; reply = r } in
    let both = split (is_by c x) x (filter (is_by c) xs) (filter (is_by c) xs) h in
    let same : d ≡ e = cc in
    (λ is. let yes : is_by c x ≡ true = eq-eqb (caller_of d) c (ap caller_of same ∙ is) in let no = both.0 in cc, both.1)

no_word : (c k : ℕ) (us : FabricState) (ws : List ℕ) → AllByRecursion IsEventWord ws → events_by c (logged_from state_after_word reply_to_word k us ws) ≡ [] → AllByRecursion (λ w. caller_of_word w ≡ c → ⊥) ws
no_word c k us [] all h = tt
no_word c k us (w ∷ ws) all h =
    let f = word_event w all.0 in
    let read : event_of_word w ≡ Some f.event = ap event_of_word f.is ∙ event_of_word-word_of f.event f.valid in
    let both = first_of c k (reply_to_word us k w) (event_of_word w) f.event (logged_from state_after_word reply_to_word (suc k) (state_after_word us k w) ws) read h in
    (λ b. both.0 (sym (caller_of_word-word_of f.event f.valid) ∙ ap caller_of_word (sym f.is) ∙ b), no_word c (suc k) (state_after_word us k w) ws all.1 both.1)

-- ---- so no word is a lane's

among : (P : ℕ → Type 0) (before : List ℕ) (w : ℕ) (after : List ℕ) → AllByRecursion P (before ++ w ∷ after) → P w
among P [] w after h = h.0
among P (x ∷ xs) w after h = among P xs w after h.1

no_others : (shapes : List Shape) (boot : SectionOf) (lanes : List SectionOf) (words : List ℕ) (before others : List ℕ) → IsLegalHistory shapes boot lanes words → AllByRecursion HasNoCommands lanes
    → words ≡ before ++ others → AllByRecursion (IsOfLane (length lanes)) others → others ≡ []
no_others shapes boot lanes words before [] h none is of = refl
no_others shapes boot lanes words before (w ∷ ws) h none is of =
    let low = of.0.0 in
    let high = of.0.1 in
    let no = none_of (logged_in shapes words) 1 lanes h.lane_records none (caller_of_word w) low (omega (arith, high)) in
    let all = no_word (caller_of_word w) 0 (fabric_at_reset shapes) words h.events no in
    absurd (among (λ v. caller_of_word v ≡ caller_of_word w → ⊥) before w ws (subst (AllByRecursion (λ v. caller_of_word v ≡ caller_of_word w → ⊥)) is all) refl)

without_lanes : (shapes : List Shape) (boot : SectionOf) (lanes : List SectionOf) (words : List ℕ) → AllByRecursion HasNoCommands lanes → IsLegalHistory shapes boot lanes words → IsLegalHistory shapes boot [] words
without_lanes shapes boot lanes words none h =
    let o = h.order in
    let nothing = no_others shapes boot lanes words o.boot o.others h none o.is o.of_lanes in
    record {
      events = h.events;
      order = record { boot = o.boot; others = []; is = o.is ∙ ap (λ ys. o.boot ++ ys) nothing; of_boot = o.of_boot; of_lanes = tt };
      boot_record = h.boot_record;
      lane_records = tt;
    }

-- Such a script has one legal history.
pub one_history : LawOneHistory → (shapes : List Shape) (boot : SectionOf) (lanes : List SectionOf) (v w : List ℕ) → AllByRecursion HasNoCommands lanes
    → IsLegalHistory shapes boot lanes v → IsLegalHistory shapes boot lanes w → v ≡ w
one_history law shapes boot lanes v w none p q = law shapes boot v w (without_lanes shapes boot lanes v none p) (without_lanes shapes boot lanes w none q)
