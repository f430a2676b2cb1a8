use Rattle.unit_core.specs.Places.{states_of}
use Rattle.unit_core.proofs.UnitSteps.{can_write, read_word_leaves}
use Rattle.unit_core.proofs.words.step_word.Goals as goal

pub write_word-requires-clause-may : goal.write_word-requires-clause-may
write_word-requires-clause-may c =
    let ready = c.requires.ready in
    can_write c.args.place c.args.units.now c.args.kept.now.items ready.blank ready.room ready.few ready.agrees

pub returns-in-1-clause-taken : goal.returns-in-1-clause-taken
returns-in-1-clause-taken c =
    c.write_word.ensures.taken c.args.place c.args.aims.now c.args.kept.now.items c.requires.ready.agrees c.requires.ready.all_valid

pub returns-in-2-clause-taken : goal.returns-in-2-clause-taken
returns-in-2-clause-taken c = record {
  agrees = c.requires.ready.agrees;
  all_valid = c.requires.ready.all_valid;
  state = read_word_leaves c.args.place (states_of 0 c.args.units.now c.args.kept.now.items) c.args.aims.now c.args.word c.in-2.is;
}

pub returns-in-3-clause-taken : goal.returns-in-3-clause-taken
returns-in-3-clause-taken c = c.submit_word.ensures.taken c.args.aims.now

pub returns-then-asked-clause-taken : goal.returns-then-asked-clause-taken
returns-then-asked-clause-taken c = c.judge_word.ensures.taken c.args.place c.args.aims.now

pub returns-else-asked-clause-taken : goal.returns-else-asked-clause-taken
returns-else-asked-clause-taken c = c.judge_unasked_word.ensures.taken c.args.place c.args.aims.now
