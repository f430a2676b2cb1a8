-- One judgement more is held, or has a verdict.
use Rattle.std.proofs.Common.{subst}
use Rattle.checker_workers.specs.declared.ticket.Judged.{Judged}
use Rattle.checker_workers.specs.Tickets.{Judges}
use Rattle.checker_workers.proofs.Resting.{rests_after}
use Rattle.checker_workers.proofs.Turns.{settling_none, settling_held, settling_done}
use Rattle.checker_workers.proofs.pieces.settle.Goals as goal

pub loop-i-init : goal.loop-i-init
loop-i-init g c = settling_none c.args.port.now c.args.ticket c.args.max c.requires.ticket

pub returns-in-Done : goal.returns-in-Done
returns-in-Done g c =
    settling_done c.args.port.now c.loop-i.port c.judge.new.self c.args.ticket c.loop-i.held c.in-Done.verdict c.args.max c.loop-i._i c.loop-i.invariant c.loop-i-test.true
    (subst (λ (j : Judged). Judges c.loop-i.port c.loop-i.held j c.judge.new.self) c.in-Done.is c.judge.ensures)

pub loop-i-preserved : goal.loop-i-preserved
loop-i-preserved g c =
    settling_held c.args.port.now c.loop-i.port c.judge.new.self c.args.ticket c.loop-i.held c.in-Held.again c.args.max c.loop-i._i c.loop-i.invariant c.loop-i-test.true
    (subst (λ (j : Judged). Judges c.loop-i.port c.loop-i.held j c.judge.new.self) c.in-Held.is c.judge.ensures)

pub tell-requires-clause-rests : goal.tell-requires-clause-rests
tell-requires-clause-rests g c = let b = c.loop-i.invariant in rests_after c.args.first c.args.port.now c.loop-i.port b.made c.requires.rests b.adds b.whole
