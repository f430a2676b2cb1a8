-- The report of a legal history as a list of lines.
use Rattle.std.proofs.Common.{◌≡◌, ℕ, ◌+◌, ◌≤◌, ◌++◌, Bool, true, false, cond, List, [], ◌∷◌, Option, Some, None, length, map, flat_map, take, decimal, codes, refl, sym, ap, subst, ◌∙◌, arith, inl, append_assoc, append-nil}
use Rattle.std.specs.Prelude.{IsSome, IfOk, Ok, Err, ◌==◌}
use Rattle.std.specs.declared.result.Result.{Result}
use Rattle.std.specs.List.{AllByRecursion, concat}
use Rattle.std.proofs.lemmas.List.Folds.{concat-append}
use Rattle.event_words.specs.declared.record.LoggedEvent.{LoggedEvent}
use Rattle.event_words.specs.declared.record.SectionEnd.{SectionEnd}
use Rattle.event_words.specs.Sections.{SectionOf}
use Rattle.event_words.specs.Records.{section_end, events_by}
use Rattle.section_cursor.specs.Cursors.{CursorOf}
use Rattle.unit_core.specs.Units.{UnitState, FabricState}
use Rattle.unit_core.specs.Fabrics.{error_words}
use Rattle.unit_core.specs.Histories.{logged_in, units_after, HasRecord, HaveRecords, IsLegalHistory}
use Rattle.event_words.specs.ReportLines.{count_line, event_line, section_line}
use Rattle.event_words.proofs.ListItems.{all_append}
use Rattle.unit_core.specs.Reports.{section_lines, unit_line, unit_lines, report_text}
use Rattle.script_reader.specs.Scripts.{ScriptOf}
use Rattle.script_reader.specs.ReportTexts.{fed_lines, with_byte}
use Rattle.script_reader.proofs.FedLines.{concat_fed}
use Rattle.audit_reader.specs.ReportLines.{report_lines, end_lines, error_lines}
use Rattle.audit_reader.specs.Beginnings.{BeginsRecord, BeginRecords, IsLegalSoFar}
use Rattle.audit_reader.specs.declared.answer.Audit.{Audit}
use Rattle.audit_reader.specs.declared.answer.Audit.TheVariants.{Legal, BadAt}
use Rattle.audit_reader.specs.declared.answer.NoMemory.{NoMemory}
use Rattle.audit_reader.specs.Audits.{IsLegalReport, Audits}
use Rattle.audit_reader.specs.Following.{AreRead, IsFound, LinesAnswer}
use Rattle.audit_reader.proofs.OneMore.{boot_first}
use Rattle.audit_reader.proofs.GoodLines.{last_lines}
use Rattle.audit_reader.proofs.HistoryLengths.{legal_is_short}
use Rattle.audit_reader.proofs.WholeLines.{IsLine, fed_concat}
use Rattle.audit_reader.proofs.LinesOfReports.{events_are_lines, count_is_line, section_is_line, unit_is_line, last_is_line}

-- ---- the lines joined

concat_events : (xs : List LoggedEvent) → concat (map event_line xs) ≡ flat_map event_line xs
concat_events [] = refl
concat_events (x ∷ xs) = ap (λ cs. event_line x ++ cs) (concat_events xs)

concat_ends : (events : List LoggedEvent) (i : ℕ) (ss : List SectionOf) → concat (end_lines events i ss) ≡ section_lines events i ss
concat_ends events i [] = refl
concat_ends events i (s ∷ ss) = ap (λ cs. section_line i (section_end i s (events_by i events)) ++ cs) (concat_ends events (i + 1) ss)

concat_errors : (u : ℕ) (xs : List UnitState) → concat (error_lines u xs) ≡ unit_lines u xs
concat_errors u [] = refl
concat_errors u (x ∷ xs) = ap (λ cs. unit_line u x ++ cs) (concat_errors (u + 1) xs)

both : (a b c d : List ℕ) → a ≡ c → b ≡ d → a ++ b ≡ c ++ d
both a b c d p q = ap (λ x. x ++ b) p ∙ ap (λ x. c ++ x) q

-- the lines of a report are its text
pub report_concat : (script : ScriptOf) (words : List ℕ) → concat (report_lines script (length words) words) ≡ report_text script.shapes script.boot script.lanes words
report_concat script words =
    let events = logged_in script.shapes words in
    let ends = end_lines events 0 (script.boot ∷ script.lanes) in
    let errors = error_lines 0 (units_after script.shapes words) in
    let tail : concat (errors ++ codes "end\n" ∷ []) ≡ unit_lines 0 (units_after script.shapes words) ++ codes "end\n" =
    concat-append errors (codes "end\n" ∷ []) ∙ both _ _ _ _ (concat_errors 0 (units_after script.shapes words)) (append-nil (codes "end\n")) in
    let ended = concat-append ends (errors ++ codes "end\n" ∷ []) ∙ both _ _ _ _ (concat_ends events 0 (script.boot ∷ script.lanes)) tail in
    let listed = concat-append (map event_line events) (ends ++ (errors ++ codes "end\n" ∷ [])) ∙ both _ _ _ _ (concat_events events) ended in
    ap (λ cs. count_line (length words) ++ cs) listed ∙ append_assoc (codes "events ") (decimal (length words) ++ codes "\n") _ ∙ ap (λ cs. codes "events " ++ cs) (append_assoc (decimal (length words)) (codes "\n") _)

-- ---- all sections ended

abbrev pub IsNoEmpty : List ℕ → Type 0
IsNoEmpty line = 1 ≤ length line

fed_full : (bytes : List ℕ) → AllByRecursion IsNoEmpty (fed_lines bytes)
fed_full [] = tt
fed_full (b ∷ bs) = by (b == 10) (fed_lines bs) (fed_full bs)
  where
    by : (t : Bool) (ls : List (List ℕ)) → AllByRecursion IsNoEmpty ls → AllByRecursion IsNoEmpty (cond t ((b ∷ []) ∷ ls) (with_byte b ls))
    by true ls h = (omega arith, h)
    by false [] h = (omega arith, tt)
    by false (l ∷ ls) h = (omega arith, h.1)

front_full : (xs ys : List (List ℕ)) → AllByRecursion IsNoEmpty (xs ++ ys) → AllByRecursion IsNoEmpty xs
front_full [] ys h = tt
front_full (x ∷ xs) ys h = (h.0, front_full xs ys h.1)

ended : (i : ℕ) (o : Option SectionEnd) → IsNoEmpty (section_line i o) → IsSome o
ended i None h = absurd (omega (arith, h))
ended i (Some e) h = refl

have_records : (events : List LoggedEvent) (i : ℕ) (ss : List SectionOf) → AllByRecursion IsNoEmpty (end_lines events i ss) → HaveRecords events i ss
have_records events i [] h = tt
have_records events i (s ∷ ss) h = (ended i (section_end i s (events_by i events)) h.0, have_records events (i + 1) ss h.1)

-- all lines are good
pub legal_report : (script : ScriptOf) (bytes : List ℕ) (count : ℕ) (words : List ℕ) (state : FabricState) (cs : List CursorOf) (left : List ℕ) → AreRead script bytes count words state cs left
    → length words ≡ count → fed_lines left ≡ last_lines script words → IsLegalReport script bytes
legal_report script bytes count words state cs left r k e =
    let full = front_full (end_lines (logged_in script.shapes words) 0 (script.boot ∷ script.lanes)) _ (subst (AllByRecursion IsNoEmpty) e (fed_full left)) in
    let records = have_records (logged_in script.shapes words) 0 (script.boot ∷ script.lanes) full in
    record {
      words = words;
      legal = record { events = r.seen.events; order = boot_first script words r.seen.order; boot_record = records.0; lane_records = records.1 };
      printed = sym (concat_fed bytes) ∙ ap concat (r.lines ∙ ap (λ ls. count_line count ∷ (map event_line (logged_in script.shapes words) ++ ls)) e ∙ ap (λ n. report_lines script n words) (sym k)) ∙ report_concat script words;
    }

-- ---- a legal history's report

-- a whole record begins itself
begins_itself : (i : ℕ) (s : SectionOf) (xs : List LoggedEvent) → HasRecord xs i s → BeginsRecord i s (events_by i xs)
begins_itself i s xs h = ([], subst (λ ys. IsSome (section_end i s ys)) (sym (append-nil (events_by i xs))) h)

begin_themselves : (xs : List LoggedEvent) (i : ℕ) (ss : List SectionOf) → HaveRecords xs i ss → BeginRecords xs i ss
begin_themselves xs i [] h = tt
begin_themselves xs i (s ∷ ss) h = (begins_itself i s xs h.0, begin_themselves xs (i + 1) ss h.1)

pub legal_so_far : (script : ScriptOf) (words : List ℕ) → IsLegalHistory script.shapes script.boot script.lanes words → IsLegalSoFar script words
legal_so_far script words legal = record {
  events = legal.events;
  order = legal.order;
  boot_record = begins_itself 0 script.boot (logged_in script.shapes words) legal.boot_record;
  boot_whole = λ any. legal.boot_record;
  lane_records = begin_themselves (logged_in script.shapes words) 1 script.lanes legal.lane_records;
}

end_line : (i : ℕ) (o : Option SectionEnd) → IsSome o → IsLine (section_line i o)
end_line i None h = absurd (let n : false ≡ true = h in cc)
end_line i (Some end) h = section_is_line i end

ends_are_lines : (xs : List LoggedEvent) (i : ℕ) (ss : List SectionOf) → HaveRecords xs i ss → AllByRecursion IsLine (end_lines xs i ss)
ends_are_lines xs i [] h = tt
ends_are_lines xs i (s ∷ ss) h = (end_line i (section_end i s (events_by i xs)) h.0, ends_are_lines xs (i + 1) ss h.1)

errors_are_lines : (u : ℕ) (xs : List UnitState) → AllByRecursion IsLine (error_lines u xs)
errors_are_lines u [] = tt
errors_are_lines u (x ∷ xs) = (unit_is_line u (error_words x), errors_are_lines (u + 1) xs)

-- its text has these lines
pub report_fed : (script : ScriptOf) (bytes : List ℕ) (l : IsLegalReport script bytes) → fed_lines bytes ≡ report_lines script (length l.words) l.words
report_fed script bytes l =
    let words = l.words in
    let events = logged_in script.shapes words in
    let last = all_append IsLine (error_lines 0 (units_after script.shapes words)) (codes "end\n" ∷ []) (errors_are_lines 0 (units_after script.shapes words)) (last_is_line, tt) in
    let ended = all_append IsLine (end_lines events 0 (script.boot ∷ script.lanes)) _ (ends_are_lines events 0 (script.boot ∷ script.lanes) (l.legal.boot_record, l.legal.lane_records)) last in
    let lines : AllByRecursion IsLine (report_lines script (length words) words) = (count_is_line (length words), all_append IsLine (map event_line events) _ (events_are_lines events) ended) in
    ap fed_lines (l.printed ∙ sym (report_concat script words)) ∙ fed_concat (report_lines script (length words) words) lines

-- Of a legal report no line is bad that is there, and the line that is found is there.
pub not_found : (script : ScriptOf) (bytes : List ℕ) (line : ℕ) → IsFound script bytes line → IsLegalReport script bytes → ⊥
not_found script bytes line f l =
    let words = l.words in
    let legal = legal_so_far script words l.legal in
    let few = legal_is_short script words l.legal in
    let lines = report_fed script bytes l in
    let within = f.there words legal few lines in
    let is = f.first.is in
    f.first.bad (record {
      count = length words;
      words = words;
      few = few;
      legal = legal;
      listed = inl refl;
      there = omega (arith, is, within);
      same = ap (take (f.first.good + 1)) lines;
    })

-- The answer for all lines is that of the audit.
pub is_audit : (script : ScriptOf) (bytes : List ℕ) (answer : Audit) → LinesAnswer answer script bytes → Audits script bytes answer
is_audit script bytes Legal h = h
is_audit script bytes (BadAt line) f = (not_found script bytes line f, f.first)

pub audited : (script : ScriptOf) (bytes : List ℕ) (r : Result Audit NoMemory) (given : List ℕ → Type 0) → given bytes → IfOk r (λ answer. (bs : List ℕ) → given bs → LinesAnswer answer script bs) → IfOk r (Audits script bytes)
audited script bytes (Ok answer) given g h = is_audit script bytes answer (h bytes g)
audited script bytes (Err e) given g h = h
