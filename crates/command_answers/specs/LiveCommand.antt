-- What `live` and `narrow live` answer: they differ in the plan alone.
use Rattle.std.specs.Prelude.{◌⊎◌, ℕ, List, true}
use Rattle.command_answers.specs.declared.inputs.update.WhichPlan.{WhichPlan}
use Rattle.command_answers.specs.UpdateInputs.{OfUpdate, IsNoUpdate}
use Rattle.command_answers.specs.UpdatePlans.{wanted_section, Keeps}
use Rattle.command_answers.specs.PlansBeside.{IsUpdateReport, IsUpdateLine, CanRun}

-- The report of a history of the plan beside the lanes, which keeps what is said of the plan.
abbrev pub IsLiveReport : WhichPlan → List ℕ → List ℕ → List ℕ → Type 0
IsLiveReport which bytes history text =
    OfUpdate true (λ u. IsUpdateReport (Keeps which) (wanted_section which u) history text u) bytes

abbrev pub IsLiveRefusal : WhichPlan → List ℕ → List ℕ → Type 0
IsLiveRefusal which bytes line =
    IsNoUpdate true bytes line ⊎ OfUpdate true (λ u. IsUpdateLine (wanted_section which u) u line) bytes

abbrev pub CanBeRunLive : WhichPlan → List ℕ → Type 0
CanBeRunLive which = OfUpdate true (λ u. CanRun (wanted_section which u) u)
