use Rattle.std.proofs.Common.{sym, ◌∙◌}
use Rattle.unit_core.proofs.Judges.{counted_open, judged_unasked, none_queued}
use Rattle.unit_core.proofs.places.judge_unasked.Goals as goal

pub leave-requires : goal.leave-requires
leave-requires c =
    counted_open c.args.number c.args.place c.args.caller c.in-Some.rrid c.args.unit.now c.args.kept.now.items c.requires.agrees c.in-Some.ensures.value
    (none_queued c.args.place c.args.unit.now.queue.items (sym c.if-len-eq0.true ∙ c.len.ensures.value))

pub returns-in-Some-clause-judged : goal.returns-in-Some-clause-judged
returns-in-Some-clause-judged c =
    judged_unasked c.args.number c.args.place c.args.caller c.in-Some.rrid c.args.unit.now c.leave.new.unit c.args.kept.now.items c.clear.new.self.items c.in-Some.ensures.value (sym c.is_recorded.ensures ∙ c.if-not-is_recorded.false) c.clear.ensures.items c.leave.ensures
    c.requires.all_valid c.requires.agrees (none_queued c.args.place c.args.unit.now.queue.items (sym c.if-len-eq0.true ∙ c.len.ensures.value))
