-- What holds of the state holds of the state with another open section.
use Rattle.std.proofs.Common.{refl, rules}
use Rattle.script_reader.proofs.Sounds.{sound_closed}
use Rattle.script_reader.proofs.reader.Reader.close.Goals as goal

pub returns-clause-value : goal.returns-clause-value
returns-clause-value c = search rules

pub returns-clause-sound : goal.returns-clause-sound
returns-clause-sound c = sound_closed c.args.self.now.place c.args.self.now _ c.args.next refl c.requires.in_section c.requires.room c.requires.next c.requires.sound (returns-clause-value c)
