-- The writes of an image as commands.
use Rattle.std.specs.Prelude.{map}
use Rattle.event_words.specs.declared.section.Command.{Command}
use Rattle.event_words.specs.declared.section.Command.TheVariants.{Write}
use Rattle.event_words.specs.Sections.{SectionOf}
use Rattle.policy_compiler.specs.declared.image.RegPair.{RegPair}
use Rattle.policy_compiler.specs.Images.{ImageOf}

abbrev pub write_command : RegPair → Command
write_command w = Write 0 w.index w.value

-- The section that makes an image's writes on unit 0.
abbrev pub image_section : ImageOf → SectionOf
image_section i = record { commands = map write_command i.writes; slots = 0 }
