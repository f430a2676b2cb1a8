-- Before the first line all lines are left.
use Rattle.std.proofs.Common.{◌≡◌, ap, sym, subst, ◌∙◌, length, arith}
use Rattle.std.specs.List.{AllByRecursion}
use Rattle.script_reader.specs.Text.{IsPlainLine}
use Rattle.script_reader.proofs.Parts.{lines_plain}
use Rattle.script_reader.specs.Lines.{State}
use Rattle.script_reader.specs.Scripts.{lines_from}
use Rattle.script_reader.proofs.LineSteps.{few_lines}
use Rattle.script_reader.proofs.script.read_lines.Goals as goal

pub loop-line-init : goal.loop-line-init
loop-line-init c =
    let few = few_lines c.args.bytes.now in
    let count = ap length c.of-lines.ensures in
    let none : length c.new-reader.result.section.commands ≡ 0 = ap (λ (s : State). length s.section.commands) c.new-reader.ensures.state in (
      ap (λ s. lines_from s 1 c.of-lines.result) c.new-reader.ensures.state ∙ ap (lines_from _ 1) c.of-lines.ensures,
      omega (arith, few, count),
      omega (arith, few, count, none),
      c.new-reader.ensures.sound,
      λ e. subst (AllByRecursion IsPlainLine) (sym c.of-lines.ensures) (lines_plain c.args.bytes.now (sym c.is_plain_text-plain.ensures ∙ e)),
    )
