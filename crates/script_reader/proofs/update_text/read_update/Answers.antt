-- A line takes the reading one step on.
use Rattle.std.proofs.Common.{◌+◌, ap, sym, ◌∙◌, length, arith}
use Rattle.script_reader.specs.UpdateTexts.{after_polls, update_from, update_start}
use Rattle.script_reader.proofs.LineSteps.{few_lines, fewer, update_ok}
use Rattle.script_reader.proofs.UpdateSizes.{begins, onward}
use Rattle.script_reader.proofs.update_text.read_update.Goals as goal

pub loop-line-init : goal.loop-line-init
loop-line-init c =
    let few = few_lines c.args.bytes.now in
    let count = ap length c.of-lines.ensures in (
      ap (λ w. update_from w c.new-reader.result 1 c.of-lines.result) c.after_polls-after.ensures ∙ ap (λ s. update_from (after_polls c.args.with_lanes) s 1 c.of-lines.result) c.new-reader.ensures ∙ ap (update_from (after_polls c.args.with_lanes) update_start 1) c.of-lines.ensures,
      omega (arith, few, count),
      begins c.new-reader.result c.args.bytes.now c.of-lines.result c.new-reader.ensures c.of-lines.ensures,
    )

pub loop-line-preserved : goal.loop-line-preserved
loop-line-preserved c =
    let count = fewer c.in-Some.line.now c.loop-line.lines c.next.new.self c.in-Some.ensures.line in (
      sym (update_ok c.after_polls-after.result c.loop-line.reader c.in-Ok.next c.loop-line.number c.in-Some.line.now c.loop-line.lines c.next.new.self c.in-Some.ensures.line c.in-Ok.ensures) ∙ c.loop-line.invariant.0,
      omega (arith, c.loop-line.invariant.1, count),
      onward c.args.with_lanes c.after_polls-after.result c.loop-line.reader c.in-Ok.next (length c.args.bytes.now + 1) c.loop-line.number c.in-Some.line.now c.loop-line.lines c.next.new.self c.after_polls-after.ensures c.in-Some.ensures.line
          c.loop-line.invariant.2 c.in-Ok.ensures,
    )
