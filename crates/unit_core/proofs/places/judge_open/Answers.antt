use Rattle.std.proofs.Common.{ap, sym, ◌∙◌}
use Rattle.event_words.specs.declared.reply.Reply.TheVariants as replies
use Rattle.unit_core.proofs.Judges.{judged_at, verdict_reply, counted}
use Rattle.unit_core.proofs.places.judge_open.Goals as goal

pub verdict-requires-clause-there : goal.verdict-requires-clause-there
verdict-requires-clause-there c =
    counted c.args.number c.args.place c.args.caller c.in-Some.access c.args.unit.now c.args.kept.now.items c.requires.agrees (sym c.open_access.ensures.value ∙ c.in-Some.is) c.requires.passed

pub returns-clause-judged : goal.returns-clause-judged
returns-clause-judged c =
    judged_at c.args.number c.args.place c.args.caller c.in-Some.access c.args.unit.now c.verdict.new.unit c.args.kept.now.items c.clear.new.self.items c.clear.ensures.items c.verdict.ensures.unit c.requires.all_valid c.requires.agrees
    (sym c.open_access.ensures.value ∙ c.in-Some.is) c.requires.passed

pub returns-clause-reply : goal.returns-clause-reply
returns-clause-reply c =
    ap replies.Verdict c.verdict.ensures.verdict
    ∙ verdict_reply c.args.number c.args.place c.args.caller c.in-Some.access c.args.unit.now c.args.kept.now.items c.requires.all_valid c.requires.agrees (sym c.open_access.ensures.value ∙ c.in-Some.is) c.requires.passed
