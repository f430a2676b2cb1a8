-- Each judgement so far was held.
use Rattle.event_words.specs.declared.event.Event.TheVariants as events
use Rattle.shared_log.specs.Callers.{IsCaller}
use Rattle.cascade_path.proofs.Judging.{Judging}
use Rattle.cascade_path.proofs.chain.judge_until.Given as goal

abbrev pub invariant-loop-try : goal.invariant-loop-try
invariant-loop-try g l =
    let m = g.M.Machine in
    Judging m.after m.reply l.initial.caller (events.Judge l.unit l.initial.caller.number l.place) l.tries l._try l.caller × IsCaller m.state m.next_place m.places m.after l.caller
