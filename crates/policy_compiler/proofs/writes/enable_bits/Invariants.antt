-- What is done so far, and what is left, make the whole.
use Rattle.std.proofs.Common.{◌≡◌, ◌<◌, ◌+◌, ◌^◌, drop}
use Rattle.policy_compiler.specs.Images.{enable_bits}
use Rattle.policy_compiler.proofs.writes.enable_bits.Given as goal

abbrev pub invariant-loop-m : goal.invariant-loop-m
invariant-loop-m l = record {
  same : l.bits + enable_bits l.rrid l.m (drop l.m l.list) ≡ enable_bits l.rrid 0 l.list;
  small : l.bits < 2 ^ (l.m + 1);
}
