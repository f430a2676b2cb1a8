-- One unit's line more came, or is the first that is bad.
use Rattle.std.proofs.Common.{◌∷◌, ap, sym, ◌∙◌, arith}
use Rattle.script_reader.specs.ReportTexts.{fed_lines}
use Rattle.event_words.specs.ReportLines.{unit_line_of}
use Rattle.audit_reader.proofs.Coming.{come_more, comes_other, units_more}
use Rattle.audit_reader.proofs.endings.first_bad_unit.Goals as goal

pub returns-then-not-errors_are_next-clause-come : goal.returns-then-not-errors_are_next-clause-come
returns-then-not-errors_are_next-clause-come c =
    let us = c.args.units.now.state.units in
    let within = c.loop-unit-test.true in
    let words = c.error_words.ensures in
    comes_other _ _ _ _ _ _ _ (units_more us c.loop-unit.unit (omega (arith, within, c.units-unit-end.ensures)))
    (λ rest e. let t = c.errors_are_next.ensures.no rest (e ∙ ap (λ ws. unit_line_of c.loop-unit.unit ws ∷ rest) (sym words)) in let f = c.if-not-errors_are_next.true in cc)
    c.loop-unit.invariant

pub loop-unit-preserved : goal.loop-unit-preserved
loop-unit-preserved c =
    let us = c.args.units.now.state.units in
    let within = c.loop-unit-test.true in
    let words = c.error_words.ensures in
    come_more _ _ _ _ _ _ _ _ (units_more us c.loop-unit.unit (omega (arith, within, c.units-unit-end.ensures)))
    (c.errors_are_next.ensures.yes c.if-not-errors_are_next.false ∙ ap (λ ws. unit_line_of c.loop-unit.unit ws ∷ fed_lines c.errors_are_next.new.unread) words)
    c.loop-unit.invariant
