use Rattle.std.proofs.Common.{sym, ◌∙◌}
use Rattle.unit_core.proofs.Judges.{none_open, counted_open, held_open, judged_none, judged_unasked}
use Rattle.unit_core.specs.Places.{open_access}
use Rattle.unit_core.proofs.places.judge_recorded.Goals as goal

pub leave-requires : goal.leave-requires
leave-requires c =
    counted_open c.args.number c.args.place c.args.caller c.in-Some.rrid c.args.unit.now c.args.kept.now.items c.requires.agrees (sym c.open_requester.ensures.value ∙ c.in-Some.is) (sym c.holds.ensures ∙ c.if-holds.false)

pub returns-in_default-clause-judged : goal.returns-in_default-clause-judged
returns-in_default-clause-judged c =
    judged_none c.args.number c.args.place c.args.caller c.args.unit.now c.args.kept.now.items c.requires.all_valid c.requires.agrees
    (none_open (open_access c.args.kept.now.items c.args.number c.args.caller c.args.place) c.open_requester.result c.open_requester.ensures.value c.in_default.is)

pub returns-then-holds-clause-judged : goal.returns-then-holds-clause-judged
returns-then-holds-clause-judged c =
    held_open c.args.number c.args.place c.args.caller c.in-Some.rrid c.args.unit.now c.args.kept.now.items (sym c.open_requester.ensures.value ∙ c.in-Some.is) c.requires.all_valid c.requires.agrees (sym c.holds.ensures ∙ c.if-holds.true)

pub returns-clause-judged : goal.returns-clause-judged
returns-clause-judged c =
    judged_unasked c.args.number c.args.place c.args.caller c.in-Some.rrid c.args.unit.now c.leave.new.unit c.args.kept.now.items c.clear.new.self.items (sym c.open_requester.ensures.value ∙ c.in-Some.is) c.requires.recorded c.clear.ensures.items c.leave.ensures
    c.requires.all_valid c.requires.agrees (sym c.holds.ensures ∙ c.if-holds.false)
