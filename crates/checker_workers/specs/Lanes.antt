-- Lanes: a section that a port's caller plays once.
use Rattle.std.specs.Prelude.{◌≡◌, ℕ, ◌≤◌, Option, Some, List, []}
use Rattle.event_words.specs.declared.record.LoggedEvent.{LoggedEvent}
use Rattle.event_words.specs.declared.record.SectionEnd.{SectionEnd}
use Rattle.event_words.specs.declared.record.SectionEnd.TheVariants as ends
use Rattle.event_words.specs.declared.section.Command.{Command}
use Rattle.event_words.specs.Records.{section_end, end_of_commands}
use Rattle.event_words.specs.Sections.{SectionOf, IsValidSection, NamesOnlyUnits, most_section_events}
use Rattle.checker_workers.specs.declared.lane.LaneEnd.{LaneEnd}
use Rattle.checker_workers.specs.declared.lane.LaneEnd.TheVariants.{Fresh, Done, Stopped}
use Rattle.shared_log.specs.Callers.{SharedView, Belongs}
use Rattle.checker_workers.specs.Ports.{PortView, unit_count}
use Rattle.checker_workers.specs.TicketViews.{TicketView}
use Rattle.checker_workers.specs.Pieces.{MakesEvents}

-- What contracts see of a lane.
pub record LaneView : Type 0 where
  pub section : SectionOf
  pub port : PortView
  pub ended : LaneEnd

-- What a section needs of the port that plays it.
pub record MayPlay (section : SectionOf) (p : PortView) : Type 0 where
  pub valid : IsValidSection section
  pub units : NamesOnlyUnits (unit_count p) section
  pub enough : most_section_events section ≤ p.left

-- A fresh lane may be played, with room for its tickets.
pub record IsReady (section : SectionOf) (p : PortView) (table : List (Option TicketView)) (room : ℕ) : Type 0 where
  pub may : MayPlay section p
  pub empty : table ≡ []
  pub enough_room : section.slots ≤ room

abbrev pub end_of : SectionEnd → LaneEnd
end_of ends.Done = Done
end_of ends.Stopped = Stopped

-- The caller made a whole record of these commands, and how it ended.
pub record PlaysCommands (p : PortView) (all : List Command) (q : PortView) (ended : LaneEnd) : Type 0 where
  pub made : List LoggedEvent
  pub adds : MakesEvents p made q
  pub how : SectionEnd
  pub record_is : end_of_commands p.number all [] made ≡ Some how
  pub ended_so : ended ≡ end_of how

-- The caller made a whole record of the section.
pub record PlaysSection (section : SectionOf) (p q : PortView) : Type 0 where
  pub made : List LoggedEvent
  pub adds : MakesEvents p made q
  pub how : SectionEnd
  pub record_is : section_end p.number section made ≡ Some how

-- The lane ran: its caller made a whole record of its section, and the lane ended as the record does.
pub record Runs (l m : LaneView) : Type 0 where
  pub made : List LoggedEvent
  pub adds : MakesEvents l.port made m.port
  pub how : SectionEnd
  pub record_is : section_end l.port.number l.section made ≡ Some how
  pub ended_so : m.ended ≡ end_of how
  pub section_is : m.section ≡ l.section

-- What holds of every lane.
abbrev pub IsLane : LaneEnd → SectionOf → PortView → List (Option TicketView) → ℕ → Type 0
IsLane Fresh section p table room = IsReady section p table room
IsLane Done section p table room = Unit {0}
IsLane Stopped section p table room = Unit {0}

-- A lane may run on this log: it is fresh, and its port's caller belongs to the log.
abbrev pub MayRun : SharedView → LaneView → Type 0
MayRun s l = (l.ended ≡ Fresh) × Belongs l.port s
