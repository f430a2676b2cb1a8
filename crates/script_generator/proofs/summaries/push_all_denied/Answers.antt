-- A line goes from those that are left to what is written.
use Rattle.std.proofs.Common.{◌∙◌, sym, arith}
use Rattle.std.specs.String.{string_bytes}
use Rattle.script_generator.proofs.DeniedLines.{line_more, no_line_more, all_lines}
use Rattle.script_generator.proofs.summaries.push_all_denied.Goals as goal

pub loop-code-init : goal.loop-code-init
loop-code-init c = (all_lines c.args.codes.now _, omega arith)

pub loop-code-preserved : goal.loop-code-preserved
loop-code-preserved c = (
  line_more c.args.codes.now (string_bytes c.loop-code.out) _ c.loop-code.code (omega arith) c.in_ok-push_denied.ensures ∙ c.loop-code.invariant.0,
  omega arith,
)

pub returns : goal.returns
returns c = sym (no_line_more c.args.codes.now (string_bytes c.loop-code.out) c.loop-code.code (omega arith)) ∙ c.loop-code.invariant.0
