-- The one line that is written where there is no plan from one policy to another.
use Rattle.std.specs.Prelude.{ℕ, List, Bool, true, false, Option, Some, None, codes}
use Rattle.update_planner.specs.declared.answer.PlanError.{PlanError}
use Rattle.update_planner.specs.declared.answer.PlanError.TheVariants.{ShapesDiffer, Compile, NoMemory}
use Rattle.command_answers.specs.declared.refusals.policy_lines.WhichPolicy.{WhichPolicy}
use Rattle.command_answers.specs.declared.refusals.policy_lines.WhichPolicy.TheVariants.{Old, New}
use Rattle.command_answers.specs.PolicyLines.{need_line}

abbrev pub which_policy : Bool → WhichPolicy
which_policy true = New
which_policy false = Old

-- want of memory has no line
abbrev pub plan_line : PlanError → Option (List ℕ)
plan_line (ShapesDiffer field) = Some (codes "iopmp: the two unit tables differ\n")
plan_line (Compile newer error) = need_line (which_policy newer) error
plan_line NoMemory = None
