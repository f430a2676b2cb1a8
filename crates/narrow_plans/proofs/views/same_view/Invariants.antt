-- what is left decides
use Rattle.std.proofs.Common.{◌≡◌, drop}
use Rattle.narrow_plans.specs.Views.{same_view}
use Rattle.narrow_plans.proofs.views.same_view.Given as goal

abbrev pub invariant-loop-i : goal.invariant-loop-i
invariant-loop-i l = same_view (drop l.i l.view) (drop l.i l.other) ≡ same_view l.view l.other
