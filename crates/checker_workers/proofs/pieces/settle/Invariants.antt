-- Each judgement so far was held.
use Rattle.checker_workers.proofs.Turns.{Settling}
use Rattle.checker_workers.proofs.pieces.settle.Given as goal

abbrev pub invariant-loop-i : goal.invariant-loop-i
invariant-loop-i g l = Settling l.initial.port l.initial.held l.max l._i l.port l.held
