use Rattle.unit_core.specs.Places.{states_of}
use Rattle.unit_core.proofs.UnitSteps.{can_write, read_leaves}
use Rattle.unit_core.proofs.kinds.step.Goals as goal

pub write_on-requires : goal.write_on-requires
write_on-requires c = can_write c.args.place c.args.units.now c.args.kept.now.items c.requires.ready.blank c.requires.ready.room c.requires.ready.few c.requires.ready.agrees

pub returns-in-RegWrite-clause-agrees : goal.returns-in-RegWrite-clause-agrees
returns-in-RegWrite-clause-agrees c = (c.write_on.ensures.taken c.args.kept.now.items c.args.place c.in-RegWrite.caller c.requires.ready.agrees).agrees

pub returns-in-Judge-clause-agrees : goal.returns-in-Judge-clause-agrees
returns-in-Judge-clause-agrees c = (c.judge_on.ensures.taken c.args.place).agrees

pub returns-in-RegRead-clause-state : goal.returns-in-RegRead-clause-state
returns-in-RegRead-clause-state c =
    rw c.in-RegRead.is (read_leaves c.args.place (states_of 0 c.args.units.now c.args.kept.now.items) c.in-RegRead.unit c.in-RegRead.caller c.in-RegRead.index)
