-- The open section has one judgement more.
use Rattle.std.proofs.Common.{length, ap, refl}
use Rattle.script_reader.specs.Lines.{State}
use Rattle.script_reader.proofs.Sounds.{sound_pushed}
use Rattle.script_reader.proofs.reader.Reader.judge_line.Goals as goal

pub returns-clause-sound : goal.returns-clause-sound
returns-clause-sound c =
    let s : State = record { place = c.self.inside.place; shapes = c.self.inside.shapes.items; boot = c.self.inside.boot; lanes = c.self.inside.lanes.items; section = c.self.inside.section } in
    sound_pushed c.push.result s c.args.self.now (length s.shapes) (length c.names.result.now) c.push.new.self c.in_ok-command.command c.self.view_is c.requires.in_section c.requires.sound
    (c.in_ok-command.ensures.good (length s.shapes)) refl (ap length c.names.ensures) c.in_ok-command.ensures.other c.push.ensures
