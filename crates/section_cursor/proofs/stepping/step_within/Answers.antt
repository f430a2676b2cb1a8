-- What is awaited after an event, for each part of a command.
use Rattle.section_cursor.proofs.stepping.step_within.Goals as goal

pub returns-in-Aiming-clause-rest : goal.returns-in-Aiming-clause-rest
returns-in-Aiming-clause-rest c = λ cs slots xs.
    let due = rw c.in-Awaiting.is at c.requires.due in
    rw (c.in-Awaiting.is, due, c.in-Aiming.is) (c.after_aim.ensures.rest c.in-Awaiting.event cs slots c.args.logged.now xs)

pub returns-in-Polling-clause-valid : goal.returns-in-Polling-clause-valid
returns-in-Polling-clause-valid c = λ _ _ _. c.after_polls.ensures.valid c.args.caller

pub returns-in-StageAiming-clause-rest : goal.returns-in-StageAiming-clause-rest
returns-in-StageAiming-clause-rest c = λ cs slots xs.
    let due = rw c.in-Awaiting.is at c.requires.due in
    rw (c.in-Awaiting.is, due, c.in-StageAiming.is) (c.after_stage_aim.ensures.rest c.in-Awaiting.event cs slots xs)

pub returns-in-Stage-clause-rest : goal.returns-in-Stage-clause-rest
returns-in-Stage-clause-rest c = λ cs slots xs.
    let due = rw c.in-Awaiting.is at c.requires.due in
    rw (c.in-Awaiting.is, due, c.in-Stage.is) (c.after_stage.ensures.rest c.in-Awaiting.event cs slots xs)
