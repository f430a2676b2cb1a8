-- How far an audit is: the units, and each caller's cursor, after the events so far.
use Rattle.std.specs.Prelude.{◌≡◌, ◌⊎◌, ℕ, ◌+◌, ◌<◌, ◌≤◌, Bool, true, false, List, [], ◌∷◌, ◌++◌, Option, None, Some, IsSome, length, get_or, map}
use Rattle.std.specs.List.{AllByRecursion}
use Rattle.event_words.specs.declared.event.Event.{Event}
use Rattle.event_words.specs.declared.record.LoggedEvent.{LoggedEvent}
use Rattle.event_words.specs.declared.shape.Shape.{Shape}
use Rattle.event_words.specs.Events.{same_event, caller_of}
use Rattle.event_words.specs.Word.{word_of}
use Rattle.event_words.specs.Valid.{IsValidEvent}
use Rattle.event_words.specs.Runs.{IsEventWord, run}
use Rattle.event_words.specs.Sections.{SectionOf}
use Rattle.event_words.specs.Records.{section_end, events_by}
use Rattle.section_cursor.specs.Cursors.{CursorOf, rest_end, HasAllTries, Allows}
use Rattle.section_cursor.specs.ValidEvents.{HasValidEvents}
use Rattle.unit_core.specs.Units.{FabricState, fabric_at_reset}
use Rattle.unit_core.specs.Fabrics.{state_after_word, reply_to_word}
use Rattle.unit_core.specs.Histories.{logged_in, BootComesFirst, HasRecord, IsBoot}
use Rattle.event_words.specs.ReportLines.{count_line, event_line}
use Rattle.script_reader.specs.Scripts.{ScriptOf, need_of}
use Rattle.script_reader.specs.ReportTexts.{fed_lines}
use Rattle.audit_reader.specs.ReportLines.{report_lines}
use Rattle.audit_reader.specs.Audits.{IsFirstBadLine, IsLegalReport}
use Rattle.audit_reader.specs.declared.answer.Audit.{Audit}
use Rattle.audit_reader.specs.declared.answer.Audit.TheVariants.{Legal, BadAt}
use Rattle.audit_reader.specs.Beginnings.{IsLegalSoFar}

-- The cursor of a caller has what is left of its section after its own of these events, with which some
-- whole record begins.
pub record Follows (caller : ℕ) (section : SectionOf) (events : List LoggedEvent) (c : CursorOf) : Type 0 where
  pub number : c.caller ≡ caller
  pub rest : (xs : List LoggedEvent) → rest_end c xs ≡ section_end caller section (events_by caller events ++ xs)
  pub may_end : (xs : List LoggedEvent) × IsSome (rest_end c xs)
  pub tries : HasAllTries c
  pub valid : HasValidEvents c

-- so for each section, of which the first has the number i
abbrev pub Follow : List LoggedEvent → ℕ → List CursorOf → List SectionOf → Type 0
Follow events i [] [] = Unit {0}
Follow events i (c ∷ cs) (s ∷ ss) = Follows i s events c × Follow events (i + 1) cs ss
Follow events i _ _ = ⊥

-- the boot section is over, and lanes may come
pub record LanesCome (script : ScriptOf) (words : List ℕ) : Type 0 where
  pub order : BootComesFirst (length script.lanes) words
  pub whole : HasRecord (logged_in script.shapes words) 0 script.boot

abbrev pub AreInOrder : ScriptOf → List ℕ → Type 0
AreInOrder script words = AllByRecursion IsBoot words ⊎ LanesCome script words

-- the units and the aims after these words
abbrev pub state_after : List Shape → List ℕ → FabricState
state_after shapes words = run state_after_word (fabric_at_reset shapes) words

-- What holds after these words: the units and the aims are those after them, and the cursors follow them.
pub record IsSeen (script : ScriptOf) (words : List ℕ) (state : FabricState) (cursors : List CursorOf) : Type 0 where
  pub events : AllByRecursion IsEventWord words
  pub reached : state ≡ state_after script.shapes words
  pub order : AreInOrder script words
  pub follow : Follow (logged_in script.shapes words) 0 cursors (script.boot ∷ script.lanes)

-- ---- one event more

-- an event after these words, with its place and its reply
abbrev pub entry_after : List Shape → List ℕ → Event → LoggedEvent
entry_after shapes words e = record { place = length words; event = e; reply = reply_to_word (state_after shapes words) (length words) (word_of e) }

-- The first of the lines that were left lists an event after these words; it is read, and this holds after it.
pub record IsNext (script : ScriptOf) (words old new : List ℕ) (state : FabricState) (cursors : List CursorOf) : Type 0 where
  pub event : Event
  pub valid : IsValidEvent event
  pub listed : fed_lines old ≡ event_line (entry_after script.shapes words event) ∷ fed_lines new
  pub seen : IsSeen script (words ++ word_of event ∷ []) state cursors

-- The first of the lines that are left, if there is one, lists no event that may come after these words.
abbrev pub ListsNone : ScriptOf → List ℕ → List ℕ → Type 0
ListsNone script words left =
    (e : Event) (more : List ℕ) (rest : List (List ℕ)) → IsValidEvent e → fed_lines left ≡ event_line (entry_after script.shapes words e) ∷ rest → IsLegalSoFar script (words ++ word_of e ∷ more) → ⊥

abbrev pub EventAnswer : Bool → ScriptOf → List ℕ → List ℕ → List ℕ → FabricState → List CursorOf → Type 0
EventAnswer true script words old new state cursors = IsNext script words old new state cursors
EventAnswer false script words old new state cursors = ListsNone script words old

-- ---- what a caller awaits

-- this is at index i
abbrev pub IsAt : List CursorOf → ℕ → CursorOf → Type 0
IsAt cs i c = (i < length cs) × (c ≡ get_or cs i c)

-- the boot section is over, where the caller is a lane
abbrev pub MayCome : List CursorOf → ℕ → Type 0
MayCome cs caller = 1 ≤ caller → (b : CursorOf) → IsAt cs 0 b → IsSome (rest_end b [])

-- The one event that a caller may make next.
pub record IsAwaited (cs : List CursorOf) (caller : ℕ) (e : Event) : Type 0 where
  pub cursor : CursorOf
  pub at : IsAt cs caller cursor
  pub turn : MayCome cs caller
  pub valid : HasValidEvents cursor → IsValidEvent e × (caller_of e ≡ cursor.caller)
  pub some : HasAllTries cursor → (x : LoggedEvent) → same_event e x.event ≡ true → Allows cursor x
  pub only : (x : LoggedEvent) → Allows cursor x → same_event e x.event ≡ true
  pub over : IsSome (rest_end cursor []) → ⊥

-- The caller may make none.
abbrev pub NoneIsAwaited : List CursorOf → ℕ → Type 0
NoneIsAwaited cs caller = (c : CursorOf) (x : LoggedEvent) → IsAt cs caller c → MayCome cs caller → Allows c x → ⊥

abbrev pub Awaits : List CursorOf → ℕ → Option Event → Type 0
Awaits cs caller None = NoneIsAwaited cs caller
Awaits cs caller (Some e) = IsAwaited cs caller e

-- ---- the lines so far

-- The first line says that there are `count` events, the lines after it are those of these words' events,
-- and these bytes are left.
pub record AreRead (script : ScriptOf) (bytes : List ℕ) (count : ℕ) (words : List ℕ) (state : FabricState) (cursors : List CursorOf) (left : List ℕ) : Type 0 where
  pub seen : IsSeen script words state cursors
  pub few : count ≤ need_of script
  pub listed : length words ≤ count
  pub lines : fed_lines bytes ≡ count_line count ∷ (map event_line (logged_in script.shapes words) ++ fed_lines left)

-- In a report of any events that begin a legal history there is a line of this number.
abbrev pub IsThere : ScriptOf → List ℕ → ℕ → Type 0
IsThere script bytes line =
    (words : List ℕ) → IsLegalSoFar script words → length words ≤ need_of script → fed_lines bytes ≡ report_lines script (length words) words → line ≤ length (fed_lines bytes)

-- The line is the first bad one, and no line that a whole report lacks.
pub record IsFound (script : ScriptOf) (bytes : List ℕ) (line : ℕ) : Type 0 where
  pub first : IsFirstBadLine script bytes line
  pub there : IsThere script bytes line

-- All lines of events are right, or that of this place is the first bad one.
abbrev pub EventsAnswer : Option ℕ → ScriptOf → List ℕ → ℕ → FabricState → List CursorOf → List ℕ → Type 0
EventsAnswer None script bytes count state cursors left = (words : List ℕ) × (length words ≡ count) × AreRead script bytes count words state cursors left
EventsAnswer (Some place) script bytes count state cursors left = IsFound script bytes (place + 2)

-- The bytes are the report of a legal history, or this is the first bad line of them.
abbrev pub LinesAnswer : Audit → ScriptOf → List ℕ → Type 0
LinesAnswer Legal script bytes = IsLegalReport script bytes
LinesAnswer (BadAt line) script bytes = IsFound script bytes line
