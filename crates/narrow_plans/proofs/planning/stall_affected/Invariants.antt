-- the stalls of the requesters so far
use Rattle.std.proofs.Common.{◌≡◌, ◌++◌}
use Rattle.narrow_plans.specs.Stalls.{stalls}
use Rattle.narrow_plans.proofs.planning.stall_affected.Given as goal

abbrev pub invariant-loop-rrid : goal.invariant-loop-rrid
invariant-loop-rrid l = l.commands.items ≡ l.initial.commands.items ++ stalls l.old l.writes l.rrid
