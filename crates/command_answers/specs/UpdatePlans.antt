-- The two plans of an update: their commands, and what is said of a history in which they are played.
use Rattle.event_words.specs.Sections.{SectionOf}
use Rattle.unit_core.specs.Histories.{History}
use Rattle.policy_compiler.specs.Policies.{PolicyOf}
use Rattle.policy_compiler.specs.Images.{image_of}
use Rattle.update_planner.specs.Plans.{plan_commands}
use Rattle.update_planner.specs.Gives.{section_with}
use Rattle.history_laws.specs.Live.{KeepsPolicies}
use Rattle.narrow_plans.specs.NarrowPlans.{narrow_commands}
use Rattle.narrow_plans.specs.Laws.{IsNarrow}
use Rattle.command_answers.specs.declared.inputs.update.WhichPlan.{WhichPlan}
use Rattle.command_answers.specs.declared.inputs.update.WhichPlan.TheVariants.{Whole, Narrow}
use Rattle.command_answers.specs.UpdateInputs.{UpdateOf}

-- the commands that take a unit from the old policy's image to the new one's
abbrev pub plan_section : UpdateOf → SectionOf
plan_section u = section_with (plan_commands (image_of u.old) (image_of u.new) u.polls)

-- the same while the affected requesters alone stall
abbrev pub narrow_section : UpdateOf → SectionOf
narrow_section u = section_with (narrow_commands (image_of u.old) (image_of u.new) u.polls)

abbrev pub wanted_section : WhichPlan → UpdateOf → SectionOf
wanted_section Whole u = plan_section u
wanted_section Narrow u = narrow_section u

-- Each verdict on a known requester is the old policy's up to the drained reading and the new one's after the
-- release, and none stands between. Under the narrow plan that is so of the affected ones. An unaffected requester's
-- submissions pass, and a verdict on it is that of both policies.
abbrev pub Keeps : WhichPlan → PolicyOf → PolicyOf → History → Type 0
Keeps Whole = KeepsPolicies
Keeps Narrow = IsNarrow
