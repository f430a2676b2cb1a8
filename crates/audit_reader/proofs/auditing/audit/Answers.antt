-- The first line is bad, or what was found after it counts.
use Rattle.std.proofs.Common.{◌≡◌, ◌∷◌, sym, ap, ◌∙◌, arith}
use Rattle.script_reader.specs.ReportTexts.{fed_lines}
use Rattle.event_words.specs.ReportLines.{count_line}
use Rattle.audit_reader.proofs.LegalReports.{not_found, audited}
use Rattle.audit_reader.proofs.Starting.{first_bad}
use Rattle.audit_reader.proofs.auditing.audit.Goals as goal

pub returns-in_default : goal.returns-in_default
returns-in_default c =
    let script = c.args.script.now in
    let bytes = c.args.bytes.now in
    let found = first_bad script bytes c.requires.formed (λ n rest l e. c.in_default.ensures.none n rest (omega (arith, l, c.need.ensures)) (ap fed_lines c.of-unread.ensures ∙ e)) in
    (not_found script bytes 1 found, found.first)

pub returns : goal.returns
returns c = audited c.args.script.now c.args.bytes.now c.audit_counted.result (λ bs. fed_lines bs ≡ count_line c.in-Some.count ∷ fed_lines c.first_count.new.unread) (ap fed_lines (sym c.of-unread.ensures) ∙ c.in-Some.ensures.some.1) c.audit_counted.ensures
