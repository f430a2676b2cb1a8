-- The bytes write no script, or one that is played.
use Rattle.command_answers.proofs.CommandAnswers.{run_refused, run_reported}
use Rattle.command_answers.proofs.commands.run.run_answer.Goals as goal

pub returns-in-Err : goal.returns-in-Err
returns-in-Err g c = run_refused c.args.which c.args.bytes.now c.in-Err.refused c.in-Err.ensures.script

pub returns-in-Ok-played : goal.returns-in-Ok-played
returns-in-Ok-played g c = run_reported c.args.which c.args.bytes.now c.in-Ok.script c.in-Ok-played.answer c.in-Ok.ensures.script c.in-Ok-played.ensures
