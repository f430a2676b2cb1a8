-- No policy, or one that needs too much.
use Rattle.command_answers.proofs.CommandAnswers.{no_policy_refused, image_refused}
use Rattle.command_answers.proofs.commands.compile.compile_answer.Goals as goal

pub returns-in-Err : goal.returns-in-Err
returns-in-Err c = no_policy_refused c.args.bytes.now c.in-Err.refused c.in-Err.ensures.policy

pub returns : goal.returns
returns c = image_refused c.args.bytes.now c.in-Ok.policy c.in-Err-image_text.refused c.in-Ok.ensures.policy c.in-Err-image_text.ensures
