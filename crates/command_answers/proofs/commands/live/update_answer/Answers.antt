-- The plan may be played, and what it answers is what its run beside the lanes gives.
use Rattle.command_answers.proofs.ScriptsBeside.{plan_may}
use Rattle.command_answers.proofs.CommandAnswers.{update_played}
use Rattle.command_answers.proofs.commands.live.update_answer.Goals as goal

pub played_beside-requires-clause-plan : goal.played_beside-requires-clause-plan
played_beside-requires-clause-plan g c κs within = plan_may c.args.which c.args.update.now c.in-Ok.plan c.in-Ok.ensures

pub returns : goal.returns
returns g c =
    update_played c.law_live.ensures c.law_narrow.ensures c.args.which c.args.update.now c.in-Ok.plan c.played_beside.result c.requires c.in-Ok.ensures c.played_beside.ensures
