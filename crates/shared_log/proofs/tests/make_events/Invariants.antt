-- One event of the budget is made each turn.
use Rattle.std.proofs.Common.{◌≡◌, ◌+◌}
use Rattle.shared_log.specs.Trials.{Stays}
use Rattle.shared_log.proofs.tests.make_events.Given as goal

abbrev pub invariant-loop-value : goal.invariant-loop-value
invariant-loop-value l = record {
  stays : Stays l.initial.caller l.caller;
  left : l.caller.left + l.value ≡ 4000;
  number : l.number ≡ l.initial.caller.number;
}
