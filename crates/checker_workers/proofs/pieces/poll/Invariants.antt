-- No read so far hit.
use Rattle.event_words.specs.declared.event.Event.TheVariants as events
use Rattle.checker_workers.proofs.Turns.{Polling}
use Rattle.checker_workers.proofs.pieces.poll.Given as goal

abbrev pub invariant-loop-i : goal.invariant-loop-i
invariant-loop-i g l = Polling l.initial.port (events.RegRead l.watch.unit l.initial.port.number l.watch.index) l.watch.mask l.watch.value l.max l._i l.port
