use Rattle.std.proofs.Common.{arith, refl, ◌∙◌}
use Rattle.event_words.specs.declared.event.Event.TheVariants.{Judge}
use Rattle.unit_core.proofs.UnitSteps.{tied_in, stepped, none_taken, step_reply, none_reply}
use Rattle.unit_core.proofs.kinds.judge_on.Goals as goal

pub judge_at-requires-clause-agrees : goal.judge_at-requires-clause-agrees
judge_at-requires-clause-agrees c = tied_in c.args.unit c.args.units.now c.index-units-at.result c.args.kept.now.items (omega arith) c.requires.agrees

pub returns-then-at-units-clause-taken : goal.returns-then-at-units-clause-taken
returns-then-at-units-clause-taken c =
    let s = c.judge_at.ensures in
    λ p. stepped p (Judge c.args.unit c.args.caller c.args.judged) c.args.unit c.args.units.now c.index-units-at.result c.judge_at.new.unit c.args.kept.now.items c.judge_at.new.kept.items refl (omega arith) c.requires.agrees s.judged.others s.judged.agrees s.judged.state

pub returns-else-at-units-clause-taken : goal.returns-else-at-units-clause-taken
returns-else-at-units-clause-taken c = λ p. none_taken p (Judge c.args.unit c.args.caller c.args.judged) c.args.unit c.args.units.now c.args.kept.now.items refl (omega arith) c.requires.agrees

pub returns-then-at-units-clause-reply : goal.returns-then-at-units-clause-reply
returns-then-at-units-clause-reply c =
    λ p. c.judge_at.ensures.reply ∙ step_reply p (Judge c.args.unit c.args.caller c.args.judged) c.args.unit c.args.units.now c.index-units-at.result c.args.kept.now.items refl (omega arith)

pub returns-else-at-units-clause-reply : goal.returns-else-at-units-clause-reply
returns-else-at-units-clause-reply c = λ p. none_reply p (Judge c.args.unit c.args.caller c.args.judged) c.args.unit c.args.units.now c.args.kept.now.items refl (omega arith)
