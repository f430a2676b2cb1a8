-- The caller has seen only other callers' words since the call began, and fewer places are left.
use Rattle.std.proofs.Common.{◌≡◌, ◌<◌, ◌-◌, []}
use Rattle.shared_log.specs.Callers.{HasCallerFields, AfterOthers, caller_view}
use Rattle.shared_log.proofs.caller.Caller.call.Given as goal

abbrev pub invariant-word : goal.invariant-word
invariant-word g l = record {
  empty : l.self-inside.seat.me.1 ≡ [];
  is : HasCallerFields g.M.Machine.state g.M.Machine.next_place g.M.Machine.places g.M.Machine.after l.self-inside.seat.table_id.words l.self-inside.seat.me.0 l.self-inside.number l.self-inside.place l.self-inside.left l.self-inside.budget l.self-inside.made l.self-inside.machine (g.M.Machine.state l.self-inside.first.value);
  some_left : 0 < l.self-inside.left;
  so_far : AfterOthers l.fn.self (caller_view l.self-inside.seat.table_id l.self-inside.seat.me.0 l.self-inside.left l.self-inside.machine (g.M.Machine.state l.self-inside.first.value));
}

abbrev pub decreases-word : goal.decreases-word
decreases-word g l = l.self-inside.seat.table_id.words - l.self-inside.place
