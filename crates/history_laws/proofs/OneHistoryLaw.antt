-- A script without lanes has one legal history.
use Rattle.std.proofs.Common.{◌≡◌, ℕ, suc, ◌++◌, List, [], ◌∷◌, map, filter, cond, refl, sym, ap, subst, ◌∙◌, arith}
use Rattle.std.specs.List.{AllByRecursion}
use Rattle.std.proofs.lemmas.Bool.{eq-eqb}
use Rattle.std.proofs.lemmas.List.{append-nil}
use Rattle.event_words.specs.declared.shape.Shape.{Shape}
use Rattle.event_words.specs.declared.event.Event.{Event}
use Rattle.event_words.specs.declared.record.LoggedEvent.{LoggedEvent}
use Rattle.event_words.specs.Valid.{IsValidEvent}
use Rattle.event_words.specs.Word.{word_of}
use Rattle.event_words.specs.Events.{caller_of}
use Rattle.event_words.specs.Runs.{caller_of_word, IsEventWord, logged_from, logged_first}
use Rattle.event_words.specs.Records.{section_end, events_by, is_by}
use Rattle.event_words.proofs.Runs.{caller_of_word-word_of, event_of_word-word_of}
use Rattle.unit_core.specs.Units.{FabricState, fabric_at_reset}
use Rattle.unit_core.specs.Fabrics.{state_after_word, reply_to_word}
use Rattle.unit_core.specs.Histories.{BootComesFirst, IsBoot, IsOfLane, logged_in}
use Rattle.event_words.proofs.EventWords.{word_event}
use Rattle.history_laws.proofs.OneRecord.{entries, section_same}
use Rattle.history_laws.specs.OneHistory.{LawOneHistory}
use Rattle.history_laws.proofs.Writes.{some_of}

abbrev boot_entries : ℕ → FabricState → List Event → List LoggedEvent
boot_entries k s es = entries state_after_word reply_to_word k s es

-- ---- the events of words that the boot section's caller made

record BootEvents (words : List ℕ) : Type 0 where
  pub events : List Event
  pub is : words ≡ map word_of events
  pub valid : AllByRecursion IsValidEvent events
  pub own : AllByRecursion (λ e. caller_of e ≡ 0) events

boot_events : (words : List ℕ) → AllByRecursion IsEventWord words → AllByRecursion IsBoot words → BootEvents words
boot_events [] all boot = record { events = []; is = refl; valid = tt; own = tt }
boot_events (w ∷ ws) all boot =
    let rest = boot_events ws all.1 boot.1 in
    let first = word_event w all.0 in
    let own : caller_of first.event ≡ 0 = sym (caller_of_word-word_of first.event first.valid) ∙ ap caller_of_word (sym first.is) ∙ boot.0 in
    let words : w ∷ ws ≡ word_of first.event ∷ map word_of rest.events = let p = first.is in let q = rest.is in cc in
    record { events = first.event ∷ rest.events; is = words; valid = (first.valid, rest.valid); own = (own, rest.own) }

-- no lane has a number from 1 to 0
no_lanes : (words : List ℕ) → AllByRecursion (IsOfLane 0) words → words ≡ []
no_lanes [] h = refl
no_lanes (w ∷ ws) h = let p = h.0.0 in let q = h.0.1 in absurd (omega arith)

all_boot : (words : List ℕ) → BootComesFirst 0 words → AllByRecursion IsBoot words
all_boot words h =
    let e : words ≡ h.boot = h.is ∙ ap (λ ys. h.boot ++ ys) (no_lanes h.others h.of_lanes) ∙ append-nil h.boot in
    subst (AllByRecursion IsBoot) (sym e) h.of_boot

-- ---- their record

logged_entries : (k : ℕ) (s : FabricState) (es : List Event) → AllByRecursion IsValidEvent es
    → logged_from state_after_word reply_to_word k s (map word_of es) ≡ boot_entries k s es
logged_entries k s [] v = refl
logged_entries k s (e ∷ es) v =
    ap (λ o. logged_first k (reply_to_word s k (word_of e)) o (logged_from state_after_word reply_to_word (suc k) (state_after_word s k (word_of e)) (map word_of es))) (event_of_word-word_of e v.0)
    ∙ ap (λ xs. record { place = k; event = e; reply = reply_to_word s k (word_of e) } ∷ xs) (logged_entries (suc k) (state_after_word s k (word_of e)) es v.1)

own_entries : (k : ℕ) (s : FabricState) (es : List Event) → AllByRecursion (λ e. caller_of e ≡ 0) es
    → events_by 0 (boot_entries k s es) ≡ boot_entries k s es
own_entries k s [] h = refl
own_entries k s (e ∷ es) h =
    let x : LoggedEvent = record { place = k; event = e; reply = reply_to_word s k (word_of e) } in
    let rest = boot_entries (suc k) (state_after_word s k (word_of e)) es in
    ap (λ b. cond b (x ∷ filter (is_by 0) rest) (filter (is_by 0) rest)) (eq-eqb (caller_of e) 0 h.0)
    ∙ ap (λ xs. x ∷ xs) (own_entries (suc k) (state_after_word s k (word_of e)) es h.1)

record_of : (shapes : List Shape) (words : List ℕ) (b : BootEvents words)
    → events_by 0 (logged_in shapes words) ≡ boot_entries 0 (fabric_at_reset shapes) b.events
record_of shapes words b =
    ap (λ ws. events_by 0 (logged_in shapes ws)) b.is ∙ ap (events_by 0) (logged_entries 0 (fabric_at_reset shapes) b.events b.valid)
    ∙ own_entries 0 (fabric_at_reset shapes) b.events b.own

pub law_one_history : LawOneHistory
law_one_history shapes boot v w p q =
    let a = boot_events v p.events (all_boot v p.order) in
    let b = boot_events w q.events (all_boot w q.order) in
    let left = some_of (section_end 0 boot (events_by 0 (logged_in shapes v))) p.boot_record in
    let right = some_of (section_end 0 boot (events_by 0 (logged_in shapes w))) q.boot_record in
    let h = sym (ap (section_end 0 boot) (record_of shapes v a)) ∙ left.1 in
    let g = sym (ap (section_end 0 boot) (record_of shapes w b)) ∙ right.1 in
    a.is ∙ section_same state_after_word reply_to_word 0 boot.commands [] 0 (fabric_at_reset shapes) a.events b.events left.0 right.0 h g ∙ sym b.is
