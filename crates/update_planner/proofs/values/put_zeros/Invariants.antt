-- The writes that are left, over what is there, give what all give.
use Rattle.std.proofs.Common.{◌≡◌, ℕ, drop}
use Rattle.std.specs.Ordering.{nat_cmp}
use Rattle.std.specs.BTreeMap.{get}
use Rattle.update_planner.specs.Values.{zeros_over}
use Rattle.update_planner.proofs.values.put_zeros.Given as goal

abbrev pub invariant-loop-write : goal.invariant-loop-write
invariant-loop-write l = (q : ℕ) → zeros_over (drop l.write-index l.writes) (get nat_cmp l.values q) q ≡ zeros_over l.writes (get nat_cmp l.initial.values q) q
