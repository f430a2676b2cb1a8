use Rattle.std.proofs.Common.{arith, refl}
use Rattle.event_words.specs.declared.event.Event.TheVariants.{Judge}
use Rattle.unit_core.proofs.UnitSteps.{tied_in, stepped, none_taken}
use Rattle.unit_core.proofs.kinds.judge_unasked_on.Goals as goal

pub judge_unasked-requires-clause-agrees : goal.judge_unasked-requires-clause-agrees
judge_unasked-requires-clause-agrees c = tied_in c.args.unit c.args.units.now c.index-units-at.result c.args.kept.now.items (omega arith) c.requires.agrees

pub returns-then-at-units-clause-taken : goal.returns-then-at-units-clause-taken
returns-then-at-units-clause-taken c =
    let s = c.judge_unasked.ensures in
    λ p. stepped p (Judge c.args.unit c.args.caller c.args.judged) c.args.unit c.args.units.now c.index-units-at.result c.judge_unasked.new.unit c.args.kept.now.items c.judge_unasked.new.kept.items refl (omega arith) c.requires.agrees s.judged.others s.judged.agrees s.judged.state

pub returns-else-at-units-clause-taken : goal.returns-else-at-units-clause-taken
returns-else-at-units-clause-taken c = λ p. none_taken p (Judge c.args.unit c.args.caller c.args.judged) c.args.unit c.args.units.now c.args.kept.now.items refl (omega arith) c.requires.agrees
