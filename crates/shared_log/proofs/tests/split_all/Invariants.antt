-- The callers so far belong to the log, and each has its whole budget left.
use Rattle.std.proofs.Common.{◌≡◌, ◌+◌, ◌≤◌, vec_len}
use Rattle.std.specs.Prelude.{vec_capacity}
use Rattle.shared_log.specs.Callers.{Belongs}
use Rattle.shared_log.specs.Trials.{AreCallers, HaveLeft}
use Rattle.shared_log.proofs.tests.split_all.Given as goal

abbrev pub invariant-loop : goal.invariant-loop
invariant-loop l = record {
  belongs : Belongs l.first l.shared;
  number : l.first.number ≡ 0;
  made : l.first.made ≡ l.counter + 1;
  state : l.first.first ≡ 0;
  places : l.first.machine.places ≡ 36000;
  len : vec_len l.rest ≡ l.counter;
  capacity : 8 ≤ vec_capacity l.rest;
  callers : AreCallers l.shared l.rest.items;
  left : HaveLeft 4000 l.rest.items;
}
