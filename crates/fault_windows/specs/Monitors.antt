-- What a monitor has seen of a history.
use Rattle.std.specs.Prelude.{◌≡◌, ℕ, Bool, true, List, [], ◌∷◌, Option, Some, map, option_and_then}
use Rattle.event_words.specs.declared.event.Event.{Event}
use Rattle.event_words.specs.declared.reply.Reply.{Reply}
use Rattle.event_words.specs.Events.{unit_of}
use Rattle.unit_core.specs.Histories.{History, state_at, event_at, reply_at}
use Rattle.unit_core.specs.Submitted.{taken_at}
use Rattle.fault_windows.specs.declared.Shown.{Shown}
use Rattle.fault_windows.specs.LateViolations.{requester_of, is_kept_violation, is_recorded}
use Rattle.fault_windows.specs.Windows.{pending_at, turn_at, shown_at}

-- What contracts see of a monitor. Each list has an item for each of four units: the pending requesters,
-- where the turn of windows begins, and whether the error record holds a violation.
pub record MonitorOf : Type 0 where
  pub pending : List (List ℕ)
  pub turns : List ℕ
  pub recorded : List Bool

abbrev pub four_units : List ℕ
four_units = 0 ∷ 1 ∷ 2 ∷ 3 ∷ []

-- It has seen the events of the history before place k.
pub record HasSeen (h : History) (k : ℕ) (m : MonitorOf) : Type 0 where
  pub pending : m.pending ≡ map (λ u. pending_at h u k) four_units
  pub turns : m.turns ≡ map (λ u. turn_at h u k) four_units
  pub recorded : m.recorded ≡ map (λ u. is_recorded (state_at h k u)) four_units

-- the requester whose access place k submits or judges
abbrev pub requester_at : History → ℕ → Option ℕ
requester_at h k = option_and_then (requester_of h) (taken_at h k)

-- Place k has this event and reply, and where the reply is a violation, the access that is submitted or
-- judged is this requester's.
pub record IsPlace (h : History) (k : ℕ) (event : Event) (rrid : ℕ) (reply : Reply) : Type 0 where
  pub event_is : event_at h k ≡ Some event
  pub reply_is : reply_at h k ≡ Some reply
  pub requester : is_kept_violation reply ≡ true → requester_at h k ≡ Some rrid

-- what place k shows of the unit of its event, if it speaks of one
abbrev pub shown_by : History → ℕ → Event → Option Shown
shown_by h k event = option_and_then (λ u. shown_at h u k) (unit_of event)
