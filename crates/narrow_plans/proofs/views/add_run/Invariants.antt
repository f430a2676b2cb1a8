-- what the entries so far give
use Rattle.std.proofs.Common.{◌≡◌}
use Rattle.narrow_plans.specs.Seen.{seen_below}
use Rattle.narrow_plans.proofs.views.add_run.Given as goal

abbrev pub invariant-loop-entry : goal.invariant-loop-entry
invariant-loop-entry l = l.view.items ≡ seen_below l.regs l.rrid l.entry
