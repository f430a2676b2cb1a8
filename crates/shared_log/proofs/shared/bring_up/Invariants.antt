-- The replica has taken the words of the log so far.
use Rattle.std.proofs.Common.{◌≡◌, take}
use Rattle.event_words.specs.Runs.{run}
use Rattle.shared_log.proofs.shared.bring_up.Given as goal

abbrev pub invariant-loop-place : goal.invariant-loop-place
invariant-loop-place g l = record {
  seat : (l.seat.table_id ≡ l.initial.seat.table_id) × (l.seat.me ≡ l.initial.seat.me);
  state : g.M.Machine.state l.machine ≡ run g.M.Machine.after (g.M.Machine.state l.initial.machine) (take l.place l.initial.seat.me.0.log);
  next : g.M.Machine.next_place l.machine ≡ l.place;
  places : g.M.Machine.places l.machine ≡ g.M.Machine.places l.initial.machine;
}
