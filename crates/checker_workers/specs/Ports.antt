-- What contracts see of a port, and what one event of a port does.
use Rattle.std.specs.Prelude.{◌≡◌, Bool, true, false, ℕ, ◌+◌, ◌<◌, ◌≤◌, Option, Some, None, List, [], ◌∷◌, ◌++◌, length}
use Rattle.std.specs.List.{AllByRecursion, last_or}
use Rattle.event_words.specs.declared.shape.Shape.{Shape}
use Rattle.event_words.specs.declared.event.Event.{Event}
use Rattle.event_words.specs.declared.event.Event.TheVariants as events
use Rattle.event_words.specs.declared.reply.Reply.{Reply}
use Rattle.event_words.specs.declared.reply.Reply.TheVariants as replies
use Rattle.event_words.specs.declared.record.LoggedEvent.{LoggedEvent}
use Rattle.event_words.specs.Valid.{IsValidShape}
use Rattle.event_words.specs.Word.{word_of}
use Rattle.event_words.specs.Runs.{run, logged}
use Rattle.event_words.specs.Records.{events_by}
use Rattle.unit_core.specs.Units.{UnitState, FabricState, fabric_at_reset, fabric_step}
use Rattle.unit_core.specs.Fabrics.{FabricView, state_after_word, reply_to_word}
use Rattle.shared_log.specs.Callers.{CallerView}
use Rattle.shared_log.specs.Words.{words_by}

-- A port is seen as its caller.
abbrev pub PortView : Type 0
PortView = CallerView FabricView FabricState

-- The state at opening: one to four units of valid shapes, at reset.
pub record IsAtReset (first : FabricState) : Type 0 where
  pub shapes : List Shape
  pub some : 1 ≤ length shapes
  pub few : length shapes ≤ 4
  pub valid : AllByRecursion IsValidShape shapes
  pub is : first ≡ fabric_at_reset shapes

-- the number of the units
abbrev pub unit_count : PortView → ℕ
unit_count p = length p.first.units

-- The state after these words, and its units.
abbrev pub state_after : PortView → List ℕ → FabricState
state_after p words = run state_after_word p.first words

abbrev pub units_after : PortView → List ℕ → List UnitState
units_after p words = (state_after p words).units

-- The events that the port's caller made, each with its place and its reply.
abbrev pub port_events : PortView → List LoggedEvent
port_events p = events_by p.number (logged state_after_word reply_to_word p.first p.log)

abbrev pub logged_at : ℕ → Event → Reply → LoggedEvent
logged_at place event reply = record { place = place; event = event; reply = reply }

-- An event of the port's caller, after events of others. Its reply is that of the units at its place.
-- Nothing else changes but the replica of the units, which is in the state after the event, and what is left
-- of the budget.
pub record MakesEvent (p : PortView) (event : Event) (reply : Reply) (q : PortView) : Type 0 where
  pub between : List ℕ
  pub others : words_by p.number between ≡ []
  pub log : q.log ≡ (p.log ++ between) ++ word_of event ∷ []
  pub answered : reply ≡ (fabric_step (length (p.log ++ between)) (state_after p (p.log ++ between)) event).1
  pub own : port_events q ≡ port_events p ++ logged_at (length (p.log ++ between)) event reply ∷ []
  pub replica : q.machine.state ≡ state_after q q.log
  pub left : q.left + 1 ≡ p.left
  pub same : q ≡ record p { log = q.log; left = q.left; machine = q.machine }

abbrev pub is_value : Reply → Bool
is_value (replies.Value n) = true
is_value _ = false

-- ---- between the events of a submission

abbrev pub is_aim : Event → Bool
is_aim (events.Aim caller addr) = true
is_aim _ = false

abbrev pub is_aim_logged : Option LoggedEvent → Bool
is_aim_logged None = false
is_aim_logged (Some x) = is_aim x.event

-- The last of these events is no Aim, so no Wide is to follow.
abbrev pub EndWhole : List LoggedEvent → Type 0
EndWhole made = is_aim_logged (last_or None made) ≡ false

-- Since so many events were left to it, the port's caller is at rest: it made none, or whole submissions.
abbrev pub RestsSince : ℕ → PortView → Type 0
RestsSince first p = p.left < first → EndWhole (port_events p)
