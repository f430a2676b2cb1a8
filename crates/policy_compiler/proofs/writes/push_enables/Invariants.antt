-- What is done so far, and what is left, make the whole.
use Rattle.std.proofs.Common.{◌≡◌, ◌-◌, ◌++◌}
use Rattle.policy_compiler.specs.Images.{enable_writes}
use Rattle.policy_compiler.proofs.writes.push_enables.Given as goal

abbrev pub invariant-loop-rrid : goal.invariant-loop-rrid
invariant-loop-rrid l = l.writes.items ++ enable_writes l.domains l.list l.rrid (l.rrids - l.rrid) ≡ l.initial.writes.items ++ enable_writes l.domains l.list 0 l.rrids
