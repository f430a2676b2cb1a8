-- The bad line of the lanes.
use Rattle.std.proofs.Common.{Err, ◌∙◌, ap, subst}
use Rattle.script_reader.specs.Answers.{Reads}
use Rattle.script_reader.specs.LiveLanes.{lanes_at}
use Rattle.command_answers.proofs.ScriptsBeside.{lanes_or}
use Rattle.command_answers.proofs.playing.beside.lanes.Goals as goal

pub returns-in-Err-clause-lanes : goal.returns-in-Err-clause-lanes
returns-in-Err-clause-lanes c =
    lanes_or c.args.update.now c.deref.result.now c.in-Err.error c.bad_line.result (c.deref.ensures.value ∙ ap (λ u. u.lanes) c.update.view_is)
    (subst (λ n. Reads (Err c.in-Err.error) (lanes_at n c.deref.result.now)) (ap (λ u. u.first_line) c.update.view_is) c.in-Err.ensures.lanes)
    c.bad_line.ensures
