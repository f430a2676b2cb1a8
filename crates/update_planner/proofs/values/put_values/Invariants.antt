-- The writes that are left, over what is there, give what all give.
use Rattle.std.proofs.Common.{◌≡◌, ℕ, drop}
use Rattle.std.specs.Ordering.{nat_cmp}
use Rattle.std.specs.BTreeMap.{get}
use Rattle.update_planner.specs.Values.{values_over}
use Rattle.update_planner.proofs.values.put_values.Given as goal

abbrev pub invariant-loop-write : goal.invariant-loop-write
invariant-loop-write l = (q : ℕ) → values_over (drop l.write-index l.writes) (get nat_cmp l.values q) q ≡ values_over l.writes (get nat_cmp l.initial.values q) q
