-- No two policies, or no plan from one to the other.
use Rattle.command_answers.proofs.CommandAnswers.{plan_printed, no_update_planned, no_plan_refused}
use Rattle.command_answers.proofs.commands.plan.plan_answer.Goals as goal

pub returns-in-Err : goal.returns-in-Err
returns-in-Err c = no_update_planned c.args.which c.args.bytes.now c.in-Err.refused c.in-Err.ensures.update

pub returns : goal.returns
returns c = no_plan_refused c.args.which c.args.bytes.now c.in-Ok.update c.in-Err-plan_text.refused c.in-Ok.ensures.update c.in-Err-plan_text.ensures

pub returns-in-Ok-plan_text : goal.returns-in-Ok-plan_text
returns-in-Ok-plan_text c =
    plan_printed c.args.which c.args.bytes.now c.in-Ok.update c.text_answer.result c.in-Ok-plan_text.text c.in-Ok.ensures.update c.text_answer.ensures c.in-Ok-plan_text.ensures
