-- The need, divided by the number of callers, is the most events of a section.
use Rattle.std.proofs.Common.{length, ap, ◌∙◌, arith}
use Rattle.std.proofs.lemmas.Grind.{common_steps}
use Rattle.script_reader.specs.Scripts.{ScriptOf}
use Rattle.script_player.proofs.PlayedSections.{budgeted}
use Rattle.script_player.proofs.budgets.budget.Goals as goal

pub returns-clause-some : goal.returns-clause-some
returns-clause-some c =
    (budgeted c.args.script.now c.len.result c.need.result (c.len.ensures ∙ grind (arith, common_steps) ∙ ap (λ (v : ScriptOf). length v.lanes) c.script.view_is) c.need.ensures).0

pub returns-clause-boot : goal.returns-clause-boot
returns-clause-boot c =
    (budgeted c.args.script.now c.len.result c.need.result (c.len.ensures ∙ grind (arith, common_steps) ∙ ap (λ (v : ScriptOf). length v.lanes) c.script.view_is) c.need.ensures).1

pub returns-clause-lanes : goal.returns-clause-lanes
returns-clause-lanes c =
    (budgeted c.args.script.now c.len.result c.need.result (c.len.ensures ∙ grind (arith, common_steps) ∙ ap (λ (v : ScriptOf). length v.lanes) c.script.view_is) c.need.ensures).2
