-- What is done so far, and what is left, make the whole.
use Rattle.std.proofs.Common.{◌≡◌, ◌<◌, ◌+◌, ◌-◌, ◌*◌, ◌^◌}
use Rattle.policy_compiler.specs.Images.{permissions_from}
use Rattle.policy_compiler.proofs.writes.permissions.Given as goal

abbrev pub invariant-loop-rrid : goal.invariant-loop-rrid
invariant-loop-rrid l = record {
  same : l.bits + permissions_from l.members l.rrid (l.rrids - l.rrid) ≡ permissions_from l.members 0 l.rrids;
  small : l.bits < 2 ^ (2 * l.rrid);
}
