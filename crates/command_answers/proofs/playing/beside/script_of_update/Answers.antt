-- The script of an update is well-formed.
use Rattle.std.proofs.Common.{subst, sym}
use Rattle.script_reader.specs.Scripts.{IsWellFormedScript}
use Rattle.command_answers.proofs.ScriptsBeside.{formed}
use Rattle.command_answers.proofs.playing.beside.script_of_update.Goals as goal

pub affordable-requires : goal.affordable-requires
affordable-requires c =
    subst IsWellFormedScript (sym c.in-Ok-update_script.ensures) (formed c.args.update.now c.args.plan c.in-Ok.others.items c.requires.readable c.requires.plan c.in-Ok.ensures.good)
