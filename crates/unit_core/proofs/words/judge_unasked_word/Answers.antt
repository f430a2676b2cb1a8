use Rattle.std.proofs.Common.{◌≡◌, Some}
use Rattle.event_words.specs.declared.event.Event.TheVariants.{Judge}
use Rattle.event_words.specs.Word.{event_of_word}
use Rattle.unit_core.proofs.UnitSteps.{word_judged}
use Rattle.unit_core.proofs.words.judge_unasked_word.Goals as goal

pub returns-in-Some-clause-taken : goal.returns-in-Some-clause-taken
returns-in-Some-clause-taken c = λ p aims.
    let said = c.in-Some.said in
    let is : event_of_word c.args.word ≡ Some (Judge said.unit said.caller said.place) = rw c.in-Some.is at c.unpack_judge.ensures in
    word_judged p c.args.word said.unit said.caller said.place c.args.units.now c.judge_unasked_on.new.units aims c.args.kept.now.items c.judge_unasked_on.new.kept.items is (c.judge_unasked_on.ensures.taken p) c.judge_unasked_on.ensures.all_valid
