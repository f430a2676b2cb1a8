-- A legal history has no more events than its script needs.
use Rattle.std.proofs.Common.{◌≡◌, ℕ, suc, ◌+◌, ◌*◌, ◌<◌, ◌≤◌, false, true, List, [], ◌∷◌, ◌++◌, Option, Some, None, length, max, sum_by, sym, ap, subst, ◌∙◌, arith}
use Rattle.std.specs.Prelude.{IsSome, IfSome}
use Rattle.std.specs.List.{AllByRecursion}
use Rattle.std.proofs.lemmas.List.{length-map}
use Rattle.event_words.specs.declared.record.LoggedEvent.{LoggedEvent}
use Rattle.event_words.specs.declared.record.SectionEnd.{SectionEnd}
use Rattle.event_words.specs.Events.{caller_of}
use Rattle.event_words.specs.Records.{section_end, events_by}
use Rattle.event_words.specs.Runs.{caller_of_word, IsEventWord, logged_from, logged_first}
use Rattle.event_words.specs.Sections.{SectionOf, most_events, most_section_events}
use Rattle.event_words.proofs.EventWords.{word_event}
use Rattle.event_words.proofs.Runs.{caller_of_word-word_of}
use Rattle.event_words.proofs.RecordLengths.{record_length}
use Rattle.script_reader.specs.Scripts.{ScriptOf, most_from, need_of, HasAtMost}
use Rattle.script_reader.proofs.Needs.{at_least, each_within, length_sum}
use Rattle.unit_core.specs.Fabrics.{state_after_word, reply_to_word}
use Rattle.unit_core.specs.Histories.{HaveRecords, IsBoot, IsOfLane, IsLegalHistory, logged_in}
use Rattle.event_words.specs.ReportLines.{event_line}
use Rattle.event_words.proofs.CallerSums.{totals, sum_is}
use Rattle.unit_core.specs.Units.{FabricState, fabric_at_reset}
use Rattle.audit_reader.proofs.EqualLines.{as_many_lines}

-- ---- a record is at most as long as its section

record_short : (caller : ℕ) (s : SectionOf) (xs : List LoggedEvent) → IsSome (section_end caller s xs) → length xs ≤ most_section_events s
record_short caller s xs h = by (section_end caller s xs) h (record_length caller s xs)
  where
    by : (o : Option SectionEnd) → IsSome o → IfSome o (λ end. length xs ≤ sum_by most_events s.commands) → length xs ≤ sum_by most_events s.commands
    by None i h = absurd (let n : false ≡ true = i in cc)
    by (Some end) i h = h

-- ---- each event is of one caller

abbrev IsOfFirst : ℕ → LoggedEvent → Type 0
IsOfFirst n x = caller_of x.event < n

abbrev IsBorneByFirst : ℕ → ℕ → Type 0
IsBorneByFirst n w = caller_of_word w < n

callers_of_words : (n k : ℕ) (s : FabricState) (ws : List ℕ) → AllByRecursion IsEventWord ws → AllByRecursion (IsBorneByFirst n) ws → AllByRecursion (IsOfFirst n) (logged_from state_after_word reply_to_word k s ws)
callers_of_words n k s [] p q = tt
callers_of_words n k s (w ∷ ws) p q =
    let h = word_event w p.0 in
    let here : caller_of h.event < n = let b = q.0 in omega (arith, b, ap caller_of_word h.is ∙ caller_of_word-word_of h.event h.valid) in
    let rest = callers_of_words n (suc k) (state_after_word s k w) ws p.1 q.1 in
    subst (λ o. AllByRecursion (IsOfFirst n) (logged_first k (reply_to_word s k w) o (logged_from state_after_word reply_to_word (suc k) (state_after_word s k w) ws))) (sym h.back) (here, rest)

borne_both : (n : ℕ) (vs ws : List ℕ) → AllByRecursion IsBoot vs → AllByRecursion (IsOfLane n) ws → AllByRecursion (IsBorneByFirst (suc n)) (vs ++ ws)
borne_both n [] [] p q = tt
borne_both n [] (w ∷ ws) p q = (let l = q.0.1 in omega (arith, l), borne_both n [] ws tt q.1)
borne_both n (v ∷ vs) ws p q = (let z = p.0 in omega (arith, z), borne_both n vs ws p.1 q)

-- ---- the need is enough for all callers

-- what an event counts
abbrev one_each : LoggedEvent → ℕ
one_each x = 1

caller_within : (xs : List LoggedEvent) (i : ℕ) (s : SectionOf) → IsSome (section_end i s (events_by i xs)) → sum_by one_each (events_by i xs) ≤ most_section_events s
caller_within xs i s h = subst (λ n. n ≤ most_section_events s) (length_sum (events_by i xs)) (record_short i s (events_by i xs) h)

lanes_within : (xs : List LoggedEvent) (i most : ℕ) (ss : List SectionOf) → HaveRecords xs i ss → AllByRecursion (HasAtMost most) ss → totals one_each xs i (length ss) ≤ length ss * most
lanes_within xs i most [] h few = omega arith
lanes_within xs i most (s ∷ ss) h few =
    let first = caller_within xs i s h.0 in
    let l = few.0 in
    let rest = lanes_within xs (i + 1) most ss h.1 few.1 in
    omega (arith, first, l, rest)

pub legal_is_short : (script : ScriptOf) (words : List ℕ) → IsLegalHistory script.shapes script.boot script.lanes words → length words ≤ need_of script
legal_is_short script words legal =
    let xs : List LoggedEvent = logged_in script.shapes words in
    let n : ℕ = length script.lanes in
    let least : ℕ = max 1 (most_section_events script.boot) in
    let most : ℕ = most_from least script.lanes in
    let logged : length xs ≡ length words = sym (length-map xs event_line) ∙ as_many_lines state_after_word reply_to_word 0 (fabric_at_reset script.shapes) words legal.events in
    let o = legal.order in
    let borne = subst (AllByRecursion (IsBorneByFirst (suc n))) (sym o.is) (borne_both n o.boot o.others o.of_boot o.of_lanes) in
    let all : length xs ≡ totals one_each xs 0 (suc n) = length_sum xs ∙ sum_is one_each xs (suc n) (callers_of_words (suc n) 0 (fabric_at_reset script.shapes) words legal.events borne) in
    let above : least ≤ most = at_least least script.lanes in
    let boot = caller_within xs 0 script.boot legal.boot_record in
    let rest : totals one_each xs 1 n ≤ n * most = lanes_within xs 1 most script.lanes legal.lane_records (each_within least script.lanes) in
    omega (arith, logged, all, above, boot, rest)
