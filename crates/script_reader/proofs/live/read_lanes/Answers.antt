-- A line takes the reading one step on.
use Rattle.std.proofs.Common.{◌≡◌, ap, sym, subst, ◌∙◌, length, arith}
use Rattle.std.specs.List.{AllByRecursion}
use Rattle.script_reader.specs.Text.{IsPlainLine}
use Rattle.script_reader.proofs.Parts.{lines_plain, first_plain}
use Rattle.script_reader.specs.Lines.{State}
use Rattle.script_reader.specs.LiveLanes.{lanes_from}
use Rattle.script_reader.proofs.LineSteps.{few_lines, fewer, lanes_ok}
use Rattle.script_reader.proofs.Writeless.{line_kept, live_start}
use Rattle.script_reader.proofs.live.read_lanes.Goals as goal

pub loop-line-init : goal.loop-line-init
loop-line-init c =
    let few = few_lines c.args.bytes.now in
    let count = ap length c.of-lines.ensures in
    let none : length c.in-Ok.reader.section.commands ≡ 0 = ap (λ (s : State). length s.section.commands) c.in-Ok.ensures.state in (
      ap (λ s. lanes_from s c.args.first_line c.of-lines.result) c.in-Ok.ensures.state ∙ ap (lanes_from _ c.args.first_line) c.of-lines.ensures,
      omega (arith, few, count),
      omega (arith, few, count, none),
      c.in-Ok.ensures.sound,
      λ e. subst (AllByRecursion IsPlainLine) (sym c.of-lines.ensures) (lines_plain c.args.bytes.now (sym c.is_plain_text-plain.ensures ∙ e)),
      live_start c.in-Ok.reader c.in-Ok.ensures.state,
    )

pub loop-line-preserved : goal.loop-line-preserved
loop-line-preserved c =
    let count = fewer c.in-Some.line.now c.loop-line.lines c.next.new.self c.in-Some.ensures.line in (
      sym (lanes_ok c.loop-line.reader c.line.new.self c.loop-line.number c.in-Some.line.now c.loop-line.lines c.next.new.self c.in-Some.ensures.line c.in_default-line.ensures.value) ∙ c.loop-line.invariant.0,
      omega (arith, c.loop-line.invariant.1, count),
      omega (arith, c.loop-line.invariant.2, c.in_default-line.ensures.grown, count),
      c.in_default-line.ensures.sound,
      (first_plain c.is_plain_text-plain.result c.in-Some.line.now c.loop-line.lines c.next.new.self c.in-Some.ensures.line c.loop-line.invariant.4).1,
      line_kept c.loop-line.reader c.line.new.self c.in-Some.line.now c.loop-line.invariant.5 c.in_default-line.ensures.value,
    )
