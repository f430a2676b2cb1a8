-- What the list of events of a live update is: the old image's writes, and then the events of lanes, of
-- which the first alone writes.
use Rattle.std.proofs.Common.{◌≡◌, ℕ, suc, ◌+◌, ◌<◌, ◌≤◌, ◌++◌, inl, inr, ◌⊎◌, Bool, true, false, cond, List, [], ◌∷◌, Option, Some, None, length, map, filter, refl, sym, ap, subst, ◌∙◌, arith, ⊎_elim}
use Rattle.std.specs.Prelude.{IsSome, IfSome}
use Rattle.std.specs.List.{AllByRecursion}
use Rattle.std.proofs.lemmas.Bool.{cases_eq, cases_lt, eq-eqb, ne_eqb}
use Rattle.std.proofs.lemmas.List.Elements.{filter-append}
use Rattle.std.proofs.lemmas.List.{append-nil}
use Rattle.event_words.specs.declared.shape.Shape.{Shape}
use Rattle.event_words.specs.declared.event.Event.{Event}
use Rattle.event_words.specs.declared.event.Event.TheVariants.{RegWrite}
use Rattle.event_words.specs.declared.record.LoggedEvent.{LoggedEvent}
use Rattle.event_words.specs.Word.{event_of_word}
use Rattle.event_words.specs.Events.{caller_of}
use Rattle.event_words.specs.Runs.{caller_of_word, IsEventWord, logged_from, logged_first}
use Rattle.event_words.specs.Sections.{SectionOf}
use Rattle.event_words.specs.Records.{end_of_commands, events_by, is_by}
use Rattle.event_words.proofs.Runs.{caller_of_word-word_of}
use Rattle.policy_compiler.specs.declared.image.RegPair.{RegPair}
use Rattle.policy_compiler.specs.Commands.{write_command}
use Rattle.unit_core.specs.Units.{FabricState, fabric_at_reset}
use Rattle.unit_core.specs.Fabrics.{state_after_word, reply_to_word}
use Rattle.unit_core.specs.Histories.{IsBoot, IsOfLane, BootComesFirst, HaveRecords, IsLegalHistory, with_event, events_of_words, logged_in}
use Rattle.event_words.specs.Sections.{HasNoRegisterWrites as IsQuietSection}
use Rattle.event_words.proofs.EventWords.{word_event}
use Rattle.event_words.proofs.ListItems.{all_append, all_of}
use Rattle.history_laws.proofs.QuietRecords.{IsNoWriteEvent, IsNoLoggedWrite, HaveNoWrites, quiet_record}
use Rattle.history_laws.proofs.Writes.{all_parts, all_passing, all_each, some_of}
use Rattle.history_laws.proofs.UnitStands.{IsOnZero}
use Rattle.history_laws.proofs.WriteRecords.{write_by, event_of, IsDrainRead, IsPlanRecord, plan_of, plan_record, writes_record, release_write}

-- ---- the list's events

same_events : (k : ℕ) (f : FabricState) (words : List ℕ)
    → map event_of (logged_from state_after_word reply_to_word k f words) ≡ events_of_words words
same_events k f [] = refl
same_events k f (w ∷ ws) = by (event_of_word w) _ (same_events (suc k) (state_after_word f k w) ws)
  where
    by : (o : Option Event) (rest : List LoggedEvent) → map event_of rest ≡ events_of_words ws
        → map event_of (logged_first k (reply_to_word f k w) o rest) ≡ with_event o (events_of_words ws)
    by None rest h = h
    by (Some e) rest h = ap (λ es. e ∷ es) h

pub events_logged : (shapes : List Shape) (words : List ℕ) → map event_of (logged_in shapes words) ≡ events_of_words words
events_logged shapes words = same_events 0 (fabric_at_reset shapes) words

-- ---- callers

abbrev IsBy : ℕ → LoggedEvent → Type 0
IsBy c x = caller_of x.event ≡ c

abbrev IsByLane : ℕ → LoggedEvent → Type 0
IsByLane lanes x = (1 ≤ caller_of x.event) × (caller_of x.event ≤ lanes)

callers : (P : ℕ → Type 0) (k : ℕ) (f : FabricState) (ws : List ℕ) → AllByRecursion IsEventWord ws
    → AllByRecursion (λ w. P (caller_of_word w)) ws
    → AllByRecursion (λ x. P (caller_of x.event)) (logged_from state_after_word reply_to_word k f ws)
callers P k f [] all h = tt
callers P k f (w ∷ ws) all h =
    let e = word_event w all.0 in
    let own : P (caller_of e.event) = subst P (ap caller_of_word e.is ∙ caller_of_word-word_of e.event e.valid) h.0 in
    subst (λ o. AllByRecursion (λ (x : LoggedEvent). P (caller_of x.event)) (logged_first k (reply_to_word f k w) o (logged_from state_after_word reply_to_word (suc k) (state_after_word f k w) ws))) (sym e.back)
    (own, callers P (suc k) (state_after_word f k w) ws all.1 h.1)

record Halves (lanes : ℕ) (xs : List LoggedEvent) : Type 0 where
  pub boot : List LoggedEvent
  pub others : List LoggedEvent
  pub is : xs ≡ boot ++ others
  pub of_boot : AllByRecursion (IsBy 0) boot
  pub of_lanes : AllByRecursion (IsByLane lanes) others

more_halves : (lanes : ℕ) (x : LoggedEvent) (xs : List LoggedEvent) → IsBy 0 x → Halves lanes xs → Halves lanes (x ∷ xs)
more_halves lanes x xs own h = record { boot = x ∷ h.boot; others = h.others; is = ap (λ ys. x ∷ ys) h.is; of_boot = (own, h.of_boot); of_lanes = h.of_lanes }

halves : (lanes k : ℕ) (f : FabricState) (boot others : List ℕ) → AllByRecursion IsEventWord (boot ++ others) → AllByRecursion IsBoot boot
    → AllByRecursion (IsOfLane lanes) others → Halves lanes (logged_from state_after_word reply_to_word k f (boot ++ others))
halves lanes k f [] others all p q = record { boot = []; others = logged_from state_after_word reply_to_word k f others; is = refl; of_boot = tt; of_lanes = callers (λ c. (1 ≤ c) × (c ≤ lanes)) k f others all q }
halves lanes k f (w ∷ ws) others all p q =
    let e = word_event w all.0 in
    let own : caller_of e.event ≡ 0 = sym (ap caller_of_word e.is ∙ caller_of_word-word_of e.event e.valid) ∙ p.0 in
    subst (λ o. Halves lanes (logged_first k (reply_to_word f k w) o (logged_from state_after_word reply_to_word (suc k) (state_after_word f k w) (ws ++ others)))) (sym e.back)
    (more_halves lanes (record { place = k; event = e.event; reply = reply_to_word f k w }) _ own (halves lanes (suc k) (state_after_word f k w) ws others all.1 p.1 q))

logged_halves : (lanes : ℕ) (shapes : List Shape) (words : List ℕ) → AllByRecursion IsEventWord words → BootComesFirst lanes words
    → Halves lanes (logged_in shapes words)
logged_halves lanes shapes words all b =
    subst (λ ws. Halves lanes (logged_from state_after_word reply_to_word 0 (fabric_at_reset shapes) ws)) (sym b.is)
    (halves lanes 0 (fabric_at_reset shapes) b.boot b.others (subst (AllByRecursion IsEventWord) b.is all) b.of_boot b.of_lanes)

-- ---- filters

all_with : {X : Type 0} (P Q R : X → Type 0) (xs : List X) → ((x : X) → P x → Q x → R x) → AllByRecursion P xs → AllByRecursion Q xs
    → AllByRecursion R xs
all_with P Q R [] each g h = tt
all_with P Q R (x ∷ xs) each g h = (each x g.0 h.0, all_with P Q R xs each g.1 h.1)

all_under : {X : Type 0} {A : Type 0} (P : X → Type 0) (xs : List X) → (A → AllByRecursion P xs) → AllByRecursion (λ x. A → P x) xs
all_under P [] f = tt
all_under P (x ∷ xs) f = (λ a. (f a).0, all_under P xs (λ a. (f a).1))

pub keeps_all : {X : Type 0} (p : X → Bool) (xs : List X) → AllByRecursion (λ x. p x ≡ true) xs → filter p xs ≡ xs
keeps_all p [] h = refl
keeps_all p (x ∷ xs) h = ap (λ b. cond b (x ∷ filter p xs) (filter p xs)) h.0 ∙ ap (λ ys. x ∷ ys) (keeps_all p xs h.1)

pub keeps_none : {X : Type 0} (p : X → Bool) (xs : List X) → AllByRecursion (λ x. p x ≡ false) xs → filter p xs ≡ []
keeps_none p [] h = refl
keeps_none p (x ∷ xs) h = ap (λ b. cond b (x ∷ filter p xs) (filter p xs)) h.0 ∙ keeps_none p xs h.1

own_boot : (lanes : ℕ) (xs : List LoggedEvent) (h : Halves lanes xs) → events_by 0 xs ≡ h.boot
own_boot lanes xs h =
    ap (events_by 0) h.is
    ∙ (filter-append (is_by 0) h.boot h.others
    ∙ (ap (λ ys. filter (is_by 0) h.boot ++ ys) (keeps_none (is_by 0) h.others (all_of (IsByLane lanes) (λ x. is_by 0 x ≡ false) h.others (λ x l. ne_eqb (caller_of x.event) 0 (λ e. let n = l.0 in omega arith)) h.of_lanes))
    ∙ (append-nil (filter (is_by 0) h.boot) ∙ keeps_all (is_by 0) h.boot (all_of (IsBy 0) (λ x. is_by 0 x ≡ true) h.boot (λ x e. eq-eqb (caller_of x.event) 0 e) h.of_boot))))

own_others : (lanes : ℕ) (xs : List LoggedEvent) (h : Halves lanes xs) → events_by 1 xs ≡ events_by 1 h.others
own_others lanes xs h =
    ap (events_by 1) h.is
    ∙ (filter-append (is_by 1) h.boot h.others
    ∙ ap (λ ys. ys ++ filter (is_by 1) h.others) (keeps_none (is_by 1) h.boot (all_of (IsBy 0) (λ x. is_by 1 x ≡ false) h.boot (λ x e. ne_eqb (caller_of x.event) 1 (λ f. absurd (omega arith))) h.of_boot)))

-- ---- the further lanes write nothing

if_there : {A : Type 0} {P : Type 0} (o : Option A) → IfSome o (λ a. P) → IsSome o → P
if_there None f h = absurd (let n : false ≡ true = h in cc)
if_there (Some a) f h = f

pub lanes_quiet : (xs : List LoggedEvent) (i : ℕ) (ss : List SectionOf) → HaveRecords xs i ss → AllByRecursion IsQuietSection ss → (c : ℕ)
    → i ≤ c → c < i + length ss → HaveNoWrites (events_by c xs)
lanes_quiet xs i [] records q c l u = absurd (omega arith)
lanes_quiet xs i (s ∷ ss) records q c l u = ⊎_elim
    (λ (e : i ≡ c). subst (λ n. HaveNoWrites (events_by n xs)) e (if_there (end_of_commands i s.commands [] (events_by i xs)) (quiet_record i s.commands q.0 [] (events_by i xs)) records.0))
    (λ (ne : i ≡ c → ⊥). let less : i + 1 ≤ c = ⊎_elim (λ (a : i < c). omega arith) (λ (b : c ≤ i). absurd (ne (omega arith))) (cases_lt i c) in lanes_quiet xs (i + 1) ss records.1 q.1 c less (omega arith))
    (cases_eq i c)

others_quiet : (lanes : ℕ) (xs : List LoggedEvent) (h : Halves (suc lanes) xs)
    → ((c : ℕ) → 2 ≤ c → c < 2 + lanes → HaveNoWrites (events_by c xs))
    → AllByRecursion (λ x. is_by 1 x ≡ false → IsNoLoggedWrite x) h.others
others_quiet lanes xs h each =
    let P : ℕ → LoggedEvent → Type 0 = λ c x. is_by c x ≡ true → (2 ≤ c) × (c < 2 + lanes) → IsNoLoggedWrite x in
    let all = all_each P xs (λ c. all_passing (λ x. (2 ≤ c) × (c < 2 + lanes) → IsNoLoggedWrite x) (is_by c) xs (all_under IsNoLoggedWrite (events_by c xs) (λ (b : (2 ≤ c) × (c < 2 + lanes)). each c b.0 b.1))) in
    let parts = all_parts (λ x. (c : ℕ) → P c x) h.boot h.others (subst (AllByRecursion (λ x. (c : ℕ) → P c x)) h.is all) in
    all_with (IsByLane (suc lanes)) (λ x. (c : ℕ) → P c x) (λ x. is_by 1 x ≡ false → IsNoLoggedWrite x) h.others
    (λ x l f e. let ne : caller_of x.event ≡ 1 → ⊥ = λ q. let n = sym e ∙ eq-eqb (caller_of x.event) 1 q in let m : false ≡ true = n in cc in
    let a = l.0 in
    let b = l.1 in
    let more : 2 ≤ caller_of x.event = ⊎_elim (λ (p : 1 < caller_of x.event). omega arith) (λ (p : caller_of x.event ≤ 1). absurd (ne (omega arith))) (cases_lt 1 (caller_of x.event)) in
    f (caller_of x.event) (eq-eqb (caller_of x.event) (caller_of x.event) refl) (more, omega arith)) h.of_lanes parts.1

-- ---- writes are on unit 0

abbrev pub IsLoggedOnZero : LoggedEvent → Type 0
IsLoggedOnZero x = IsOnZero x.event

quiet_zero : (e : Event) → IsNoWriteEvent e → IsOnZero e
quiet_zero (RegWrite unit caller index value) h = absurd h
quiet_zero _ h = tt

writes_zero : (c : ℕ) (ws : List RegPair) (xs : List LoggedEvent) → map event_of xs ≡ map (write_by c) ws → AllByRecursion IsLoggedOnZero xs
writes_zero c ws [] h = tt
writes_zero c [] (x ∷ xs) h = absurd (let n : x.event ∷ map event_of xs ≡ [] = h in cc)
writes_zero c (w ∷ ws) (x ∷ xs) h =
    let e : x.event ≡ write_by c w = cc in
    let rest : map event_of xs ≡ map (write_by c) ws = cc in
    (subst IsOnZero (sym e) refl, writes_zero c ws xs rest)

plan_zero : (stalls tables : List RegPair) (xs : List LoggedEvent) → IsPlanRecord stalls tables xs → AllByRecursion IsLoggedOnZero xs
plan_zero stalls tables xs r =
    subst (AllByRecursion IsLoggedOnZero) (sym r.is)
    (all_append IsLoggedOnZero r.first (r.reads ++ r.rest) (writes_zero 1 stalls r.first r.stalling)
    (all_append IsLoggedOnZero r.reads r.rest (all_of IsDrainRead IsLoggedOnZero r.reads (λ x e. subst IsOnZero (sym e) tt) r.events) (ending r.rest r.ends)))
  where
    ending : {A B : Type 0} (rest : List LoggedEvent)
        → (A × (rest ≡ [])) ⊎ (B × (map event_of rest ≡ map (write_by 1) (tables ++ release_write ∷ [])))
        → AllByRecursion IsLoggedOnZero rest
    ending rest (inl e) = subst (AllByRecursion IsLoggedOnZero) (sym e.1) tt
    ending rest (inr e) = writes_zero 1 (tables ++ release_write ∷ []) rest e.1

-- ---- together

pub record IsLive (old stalls tables : List RegPair) (xs : List LoggedEvent) : Type 0 where
  pub boot : List LoggedEvent
  pub others : List LoggedEvent
  pub is : xs ≡ boot ++ others
  pub boot_events : map event_of boot ≡ map (write_by 0) old
  pub own : IsPlanRecord stalls tables (events_by 1 others)
  pub quiet : AllByRecursion (λ x. is_by 1 x ≡ false → IsNoLoggedWrite x) others
  pub on_zero : AllByRecursion IsLoggedOnZero xs

on_zero_by : (xs : List LoggedEvent) → AllByRecursion (λ x. is_by 1 x ≡ false → IsNoLoggedWrite x) xs
    → AllByRecursion IsLoggedOnZero (events_by 1 xs) → AllByRecursion IsLoggedOnZero xs
on_zero_by xs quiet own =
    all_with (λ x. is_by 1 x ≡ false → IsNoLoggedWrite x) (λ x. is_by 1 x ≡ true → IsLoggedOnZero x) IsLoggedOnZero xs (λ x f g. by x (is_by 1 x) refl f g) quiet (all_passing IsLoggedOnZero (is_by 1) xs own)
  where
    by : (x : LoggedEvent) (b : Bool) → is_by 1 x ≡ b → (is_by 1 x ≡ false → IsNoLoggedWrite x) → (is_by 1 x ≡ true → IsLoggedOnZero x)
        → IsLoggedOnZero x
    by x true e f g = g e
    by x false e f g = quiet_zero x.event (f e)

pub live_list : (shapes : List Shape) (old stalls tables : List RegPair) (polls : ℕ) (boot plan : SectionOf)
    → (lanes : List SectionOf) (words : List ℕ) → boot.commands ≡ map write_command old → plan.commands ≡ plan_of stalls tables polls
    → AllByRecursion IsQuietSection lanes
    → IsLegalHistory shapes boot (plan ∷ lanes) words → IsLive old stalls tables (logged_in shapes words)
live_list shapes old stalls tables polls boot plan lanes words b p q legal =
    let h = logged_halves (suc (length lanes)) shapes words legal.events legal.order in
    let booted = some_of (end_of_commands 0 boot.commands [] (events_by 0 (logged_in shapes words))) legal.boot_record in
    let planned = some_of (end_of_commands 1 plan.commands [] (events_by 1 (logged_in shapes words))) legal.lane_records.0 in
    let first = writes_record 0 old [] (events_by 0 (logged_in shapes words)) booted.0 (subst (λ cs. end_of_commands 0 cs [] (events_by 0 (logged_in shapes words)) ≡ Some booted.0) b booted.1) in
    let own = plan_record stalls tables polls [] (events_by 1 (logged_in shapes words)) planned.0 (subst (λ cs. end_of_commands 1 cs [] (events_by 1 (logged_in shapes words)) ≡ Some planned.0) p planned.1) in
    let mine = subst (IsPlanRecord stalls tables) (own_others (suc (length lanes)) (logged_in shapes words) h) own in
    let events : map event_of h.boot ≡ map (write_by 0) old = ap (map event_of) (sym (own_boot (suc (length lanes)) (logged_in shapes words) h)) ∙ first in
    let silent = others_quiet (length lanes) (logged_in shapes words) h (lanes_quiet (logged_in shapes words) 2 lanes legal.lane_records.1 q) in
    record {
      boot = h.boot;
      others = h.others;
      is = h.is;
      boot_events = events;
      own = mine;
      quiet = silent;
      on_zero = subst (AllByRecursion IsLoggedOnZero) (sym h.is) (all_append IsLoggedOnZero h.boot h.others (writes_zero 0 old h.boot events) (on_zero_by h.others silent (plan_zero stalls tables (events_by 1 h.others) mine)));
    }
