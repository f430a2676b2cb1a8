-- The section's line is the next one, or is not.
use Rattle.std.proofs.Common.{◌∷◌, Option, ap, sym, ◌∙◌}
use Rattle.std.specs.List.{concat}
use Rattle.event_words.specs.declared.record.SectionEnd.{SectionEnd}
use Rattle.event_words.specs.ReportLines.{section_line}
use Rattle.script_reader.specs.ReportTexts.{fed_lines}
use Rattle.audit_reader.proofs.Coming.{none_empty}
use Rattle.audit_reader.proofs.LinesOfReports.{section_is_line}
use Rattle.audit_reader.proofs.WholeLines.{line_taken, line_begins}
use Rattle.audit_reader.proofs.endings.end_is_next.Goals as goal

pub returns-in_default-clause-no : goal.returns-in_default-clause-no
returns-in_default-clause-no c = λ rest e. absurd (none_empty c.args.unread.now rest (e ∙ ap (λ (o : Option SectionEnd). section_line c.args.number o ∷ rest) c.in_default.is))

pub returns-clause-yes : goal.returns-clause-yes
returns-clause-yes c = λ t.
    line_taken c.args.unread.now c.bytes.result.now c.take.new.self _ (c.bytes.ensures ∙ c.make_section.ensures) (section_is_line c.args.number c.in-Some.end) (c.take.ensures.yes t)
    ∙ ap (λ (o : Option SectionEnd). section_line c.args.number o ∷ fed_lines c.take.new.self) (sym c.in-Some.is)

pub returns-clause-no : goal.returns-clause-no
returns-clause-no c = λ rest e.
    c.take.ensures.no (concat rest) (line_begins c.args.unread.now c.bytes.result.now _ rest (c.bytes.ensures ∙ c.make_section.ensures)
    (e ∙ ap (λ (o : Option SectionEnd). section_line c.args.number o ∷ rest) c.in-Some.is))
