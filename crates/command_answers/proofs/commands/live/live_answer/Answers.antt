-- No two policies, or what their update answers.
use Rattle.command_answers.proofs.CommandAnswers.{no_update_live, live_answers}
use Rattle.command_answers.proofs.commands.live.live_answer.Goals as goal

pub returns-in-Err : goal.returns-in-Err
returns-in-Err g c = no_update_live c.args.which c.args.bytes.now c.in-Err.refused c.in-Err.ensures.update

pub returns : goal.returns
returns g c = live_answers c.args.which c.args.bytes.now c.in-Ok.update c.update_answer.result c.in-Ok.ensures.update c.update_answer.ensures
