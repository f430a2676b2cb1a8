-- One read more misses, or hits.
use Rattle.std.proofs.Common.{eq-eqb, ne_eqb}
use Rattle.event_words.specs.declared.event.Event.TheVariants as events
use Rattle.event_words.specs.declared.reply.Reply.TheVariants as replies
use Rattle.checker_workers.proofs.Resting.{rests_after}
use Rattle.checker_workers.proofs.Turns.{polling_none, polling_missed, polling_hit}
use Rattle.checker_workers.proofs.pieces.poll.Goals as goal

pub loop-i-init : goal.loop-i-init
loop-i-init g c = polling_none c.args.port.now (events.RegRead c.args.watch.unit c.args.port.now.number c.args.watch.index) c.args.watch.mask c.args.watch.value c.args.max

pub returns-then-word-watch : goal.returns-then-word-watch
returns-then-word-watch g c =
    polling_hit c.args.port.now c.loop-i.port c.read-word.new.self c.args.watch.unit c.args.watch.index c.args.watch.mask c.args.watch.value c.args.max c.loop-i._i (replies.Value c.read-word.result)
    c.loop-i.invariant c.loop-i-test.true c.read-word.ensures (eq-eqb _ _ c.if-word-watch.true)

pub loop-i-preserved : goal.loop-i-preserved
loop-i-preserved g c =
    polling_missed c.args.port.now c.loop-i.port c.read-word.new.self c.args.watch.unit c.args.watch.index c.args.watch.mask c.args.watch.value c.args.max c.loop-i._i (replies.Value c.read-word.result)
    c.loop-i.invariant c.loop-i-test.true c.read-word.ensures (ne_eqb _ _ c.if-word-watch.false)

pub tell-requires-clause-rests : goal.tell-requires-clause-rests
tell-requires-clause-rests g c = let b = c.loop-i.invariant in rests_after c.args.first c.args.port.now c.loop-i.port b.made c.requires.rests b.adds b.whole
