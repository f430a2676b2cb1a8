-- What holds of the state after any lines.
use Rattle.std.specs.Prelude.{◌≡◌, ℕ, ◌≤◌, [], length, count_by}
use Rattle.std.specs.List.{AllByRecursion}
use Rattle.event_words.specs.declared.section.Command.{Command}
use Rattle.event_words.specs.declared.section.Stages.{Stages}
use Rattle.event_words.specs.Valid.{IsValidShape}
use Rattle.event_words.specs.Sections.{IsValidSection, IsValidStages, IsValidCommand, AreValidCommands, NamesUnits, NamesOnlyUnits, IsBelow, stage_units, is_submit}
use Rattle.script_reader.specs.declared.reader.ScriptPart.{ScriptPart}
use Rattle.script_reader.specs.declared.reader.ScriptPart.TheVariants.{Head, Units, Boot, Lane, Finished}
use Rattle.script_reader.specs.Told.{HasNoSpareUnits, IsToldWhole, TellsWhole}
use Rattle.script_reader.specs.Lines.{State, OpenSection, new_section, no_commands, next_lane}

-- stages through units that are there
pub record IsGoodStages (units : ℕ) (stages : Stages) : Type 0 where
  pub valid : IsValidStages stages
  pub there : AllByRecursion (IsBelow units) (stage_units stages)
  pub whole : HasNoSpareUnits stages

-- a command that may stand after so many submissions where there are so many units
pub record IsGoodCommand (units slots : ℕ) (command : Command) : Type 0 where
  pub valid : IsValidCommand slots command
  pub units_there : NamesUnits units command
  pub whole : IsToldWhole command

pub record IsSoundSection (units : ℕ) (open_section : OpenSection) : Type 0 where
  pub names : length open_section.names ≡ count_by is_submit open_section.commands
  pub commands : AreValidCommands 0 open_section.commands
  pub units_there : AllByRecursion (NamesUnits units) open_section.commands
  pub whole : AllByRecursion IsToldWhole open_section.commands

-- before `boot` no section has begun
pub record IsBlank (s : State) : Type 0 where
  pub boot : s.boot ≡ no_commands
  pub lanes : s.lanes ≡ []
  pub section : s.section ≡ new_section

pub record HasLanes (most : ℕ) (s : State) : Type 0 where
  pub some_units : 1 ≤ length s.shapes
  pub few_lanes : length s.lanes ≤ most

-- how many lanes are whole: the open section may be one more
abbrev pub FitsPlace : ScriptPart → State → Type 0
FitsPlace Head s = IsBlank s
FitsPlace Units s = IsBlank s
FitsPlace Boot s = HasLanes 0 s
FitsPlace Lane s = HasLanes 15 s
FitsPlace Finished s = HasLanes 16 s

pub record IsSound (s : State) : Type 0 where
  pub few_shapes : length s.shapes ≤ 4
  pub shapes : AllByRecursion IsValidShape s.shapes
  pub boot : IsValidSection s.boot
  pub boot_units : NamesOnlyUnits (length s.shapes) s.boot
  pub boot_whole : TellsWhole s.boot
  pub lanes : AllByRecursion IsValidSection s.lanes
  pub lanes_units : AllByRecursion (NamesOnlyUnits (length s.shapes)) s.lanes
  pub lanes_whole : AllByRecursion TellsWhole s.lanes
  pub section : IsSoundSection (length s.shapes) s.section
  pub place : FitsPlace s.place s

-- ---- where a line may stand

-- a section is open
abbrev pub IsInSection : ScriptPart → Type 0
IsInSection Boot = Unit {0}
IsInSection Lane = Unit {0}
IsInSection _ = ⊥

-- the place after the end of a section
abbrev pub MayFollow : ScriptPart → State → Type 0
MayFollow Lane s = next_lane s.place s.lanes ≤ 16
MayFollow Finished s = Unit {0}
MayFollow _ s = ⊥
