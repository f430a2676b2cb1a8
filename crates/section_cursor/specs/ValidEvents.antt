-- Cursors whose next event is a valid one, as in every valid section.
use Rattle.std.specs.Prelude.{◌≡◌, ℕ, ◌<◌, ◌≤◌, ◌^◌, Option, None, Some}
use Rattle.std.specs.List.{AllByRecursion}
use Rattle.event_words.specs.declared.section.Command.{Command}
use Rattle.event_words.specs.Events.{caller_of}
use Rattle.event_words.specs.Valid.{IsValidAccess, IsValidEvent}
use Rattle.event_words.specs.Sections.{IsValidCommand, IsUnit, stage_units}
use Rattle.event_words.specs.Records.{OpenSlot}
use Rattle.section_cursor.specs.declared.ahead.Chain.{Chain}
use Rattle.section_cursor.specs.declared.ahead.Part.{Part}
use Rattle.section_cursor.specs.declared.ahead.Part.TheVariants.{Submission, Aiming, StageAiming, Stage, StageJudging}
use Rattle.section_cursor.specs.declared.ahead.Ahead.{Ahead}
use Rattle.section_cursor.specs.declared.ahead.Ahead.TheVariants.{Awaiting}
use Rattle.section_cursor.specs.Cursors.{CursorOf}

-- a command is valid after some number of submissions
abbrev pub IsPlayable : Command → Type 0
IsPlayable c = (n : ℕ) × IsValidCommand n c

-- a slot's unit and place are those of a judgement
abbrev pub IsValidSlot : Option OpenSlot → Type 0
IsValidSlot None = Unit {0}
IsValidSlot (Some slot) = (slot.unit < 4) × (slot.place < 2 ^ 24)

pub record IsValidChain (chain : Chain) : Type 0 where
  pub units : AllByRecursion IsUnit (stage_units chain.stages)
  pub access : IsValidAccess chain.access

abbrev pub IsValidPart : Part → Type 0
IsValidPart (Submission unit) = unit < 4
IsValidPart (Aiming unit access) = (unit < 4) × IsValidAccess access
IsValidPart (StageAiming unit rrid chain) = (unit < 4) × (rrid ≤ 63) × IsValidChain chain
IsValidPart (Stage unit chain) = (unit < 4) × IsValidChain chain
IsValidPart (StageJudging left chain) = IsValidChain chain
IsValidPart _ = Unit {0}

-- the awaited event is a valid one of this caller
abbrev pub IsValidAhead : ℕ → Ahead → Type 0
IsValidAhead caller (Awaiting event part) = (caller_of event ≡ caller) × IsValidEvent event × IsValidPart part
IsValidAhead caller _ = Unit {0}

-- The caller's number, the commands, the slots and what comes next are in their ranges.
pub record HasValidEvents (c : CursorOf) : Type 0 where
  pub caller : c.caller < 32
  pub commands : AllByRecursion IsPlayable c.commands
  pub slots : AllByRecursion IsValidSlot c.slots
  pub ahead : IsValidAhead c.caller c.ahead
