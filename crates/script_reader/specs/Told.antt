-- The text of a command tells all of it: no unit stands after the last stage.
use Rattle.std.specs.Prelude.{◌≡◌, ℕ, ◌≤◌, length, slice_index}
use Rattle.std.specs.List.{AllByRecursion}
use Rattle.event_words.specs.declared.section.Stages.{Stages}
use Rattle.event_words.specs.declared.section.Command.{Command}
use Rattle.event_words.specs.declared.section.Command.TheVariants.{Through}
use Rattle.event_words.specs.Sections.{SectionOf}

-- four units, of which those after the last stage are 0
pub record HasNoSpareUnits (stages : Stages) : Type 0 where
  pub four : length stages.units ≡ 4
  pub zeros : (i : ℕ) → stages.count ≤ i → slice_index stages.units i ≡ 0

abbrev pub IsToldWhole : Command → Type 0
IsToldWhole (Through stages access max) = HasNoSpareUnits stages
IsToldWhole _ = Unit {0}

abbrev pub TellsWhole : SectionOf → Type 0
TellsWhole section = AllByRecursion IsToldWhole section.commands
