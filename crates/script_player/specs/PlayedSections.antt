-- Callers that play the sections of a script.
use Rattle.std.specs.Prelude.{◌≡◌, ℕ, ◌+◌, ◌*◌, ◌<◌, ◌≤◌, List, [], length, slice_index_or, vec_capacity}
use Rattle.std.specs.List.{AllByRecursion}
use Rattle.event_words.specs.declared.shape.Shape.{Shape}
use Rattle.event_words.specs.Sections.{SectionOf, IsValidSection, NamesOnlyUnits, most_section_events}
use Rattle.event_words.specs.Runs.{logged}
use Rattle.unit_core.specs.Units.{FabricState}
use Rattle.unit_core.specs.Fabrics.{FabricView, state_after_word, reply_to_word, opening}
use Rattle.unit_core.specs.Histories.{HasRecord}
use Rattle.shared_log.specs.Callers.{SharedView, Belongs}
use Rattle.checker_workers.specs.declared.lane.LaneEnd.TheVariants.{Fresh}
use Rattle.checker_workers.specs.Ports.{PortView, IsAtReset, port_events}
use Rattle.checker_workers.specs.Lanes.{LaneView, Runs}
use Rattle.script_player.specs.declared.players.Player.{Player}

-- A player with a replica of units at reset that has so many places, and with room for so many replies.
pub record IsPlayer (shapes : List Shape) (places budget : ℕ) (player : Player) : Type 0 where
  pub replica : player.replica ≡ opening shapes places
  pub empty : player.replies.items ≡ []
  pub room : budget ≤ vec_capacity player.replies

abbrev pub section_of : Player → SectionOf
section_of player = player.section

-- A replica of units that were in this state at first, with places enough.
pub record IsFreshReplica (first : FabricState) (places : ℕ) (fabric : FabricView) : Type 0 where
  pub state : fabric.state ≡ first
  pub next : fabric.next ≡ 0
  pub enough : places ≤ fabric.places

-- A caller with this number made a whole record of the section, on units that were in this state at first.
pub record HasPlayed (first : FabricState) (number : ℕ) (section : SectionOf) (c : PortView) : Type 0 where
  pub number_is : c.number ≡ number
  pub first_is : c.first ≡ first
  pub record_is : HasRecord (logged state_after_word reply_to_word first c.log) number section

-- The first caller of a log, before another was made: all events are its own.
pub record IsFirstCaller (shared : SharedView) (c : PortView) : Type 0 where
  pub belongs : Belongs c shared
  pub number : c.number ≡ 0
  pub made : c.made ≡ 1
  pub reset : IsAtReset c.first

-- One caller more may be split off the first.
pub record MaySplit (shared : SharedView) (c : PortView) : Type 0 where
  pub belongs : Belongs c shared
  pub number : c.number ≡ 0
  pub more : c.made < shared.callers
  pub reset : IsAtReset c.first

-- What a section needs of units and of a budget to be played.
pub record MayBePlayed (units budget : ℕ) (section : SectionOf) : Type 0 where
  pub valid : IsValidSection section
  pub units_there : NamesOnlyUnits units section
  pub enough : most_section_events section ≤ budget

abbrev pub MayAllPlay : ℕ → ℕ → List SectionOf → Type 0
MayAllPlay units budget sections = AllByRecursion (MayBePlayed units budget) sections

-- A player of a section that may be played on this log, on units that were in this state at first.
pub record IsReadyPlayer (shared : SharedView) (first : FabricState) (player : Player) : Type 0 where
  pub replica : IsFreshReplica first (shared.callers * shared.budget) player.replica
  pub may : MayBePlayed (length first.units) shared.budget player.section
  pub empty : player.replies.items ≡ []
  pub room : shared.budget ≤ vec_capacity player.replies

-- A fresh lane of this section, whose caller has this number and made no event yet.
pub record IsReadyLane (shared : SharedView) (first : FabricState) (number : ℕ) (section : SectionOf) (lane : LaneView) : Type 0 where
  pub fresh : lane.ended ≡ Fresh
  pub section_is : lane.section ≡ section
  pub number_is : lane.port.number ≡ number
  pub first_is : lane.port.first ≡ first
  pub belongs : Belongs lane.port shared
  pub none : port_events lane.port ≡ []

-- so for each lane of a list, of which the first has number 1
pub record AreReadyLanes (shared : SharedView) (first : FabricState) (sections : List SectionOf) (lanes : List LaneView) : Type 0 where
  pub count : length lanes ≡ length sections
  pub each : (k : ℕ) (s : SectionOf) (d : LaneView) → k < length lanes → IsReadyLane shared first (k + 1) (slice_index_or sections k s) (slice_index_or lanes k d)

abbrev pub port_of : LaneView → PortView
port_of lane = lane.port

-- a lane ran, and this is its caller then
pub record RunsTo (lane : LaneView) (caller : PortView) : Type 0 where
  pub after : LaneView
  pub runs : Runs lane after
  pub caller_is : caller ≡ after.port
