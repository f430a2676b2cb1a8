-- The logs of the callers so far are joined to that of the first.
use Rattle.std.proofs.Common.{◌≡◌, [], ◌++◌, length, map}
use Rattle.std.specs.Vec.Iter.{into_iter_items, into_iter_len}
use Rattle.std.specs.List.{AllByRecursion}
use Rattle.shared_log.specs.Callers.{KeepsBudget}
use Rattle.shared_log.specs.SeatViews.{with_joined}
use Rattle.shared_log.proofs.history.close.Given as goal

abbrev pub invariant-loop-caller : goal.invariant-loop-caller
invariant-loop-caller g l = record {
  items : l.yielded ++ into_iter_items l.caller-iterator ≡ into_iter_items l.initial.caller-iterator;
  len : into_iter_len l.caller-iterator ≡ length (into_iter_items l.caller-iterator);
  budgets : AllByRecursion (λ k. KeepsBudget k) l.yielded;
  table : l.seat.table_id ≡ l.initial.seat.table_id;
  me : l.seat.me ≡ (with_joined l.initial.seat.me.0 (map (λ k. k.log) l.yielded), []);
}
