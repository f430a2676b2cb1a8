-- One unit's line goes from those that are left to what is written.
use Rattle.std.proofs.Common.{◌++◌, ◌∙◌, ap, arith}
use Rattle.event_words.specs.ReportLines.{unit_line_of}
use Rattle.script_player.proofs.UnitLines.{written_more}
use Rattle.script_player.proofs.told.push_units.Goals as goal

pub loop-unit-preserved : goal.loop-unit-preserved
loop-unit-preserved c =
    written_more _ _ c.args.units.now.state.units c.loop-unit.unit (omega arith)
    (c.in_ok-extend_from_slice.ensures.items ∙ ap (λ t. c.loop-unit.out.items ++ t) (c.bytes.ensures ∙ c.make_unit.ensures ∙ ap (unit_line_of c.loop-unit.unit) c.error_words.ensures))
    ∙ c.loop-unit.invariant
