-- The queue of a unit, in every state.
use Rattle.std.specs.Prelude.{◌≡◌, ℕ, ◌≤◌, true, IfSome, All}
use Rattle.event_words.specs.Domains.{is_known}
use Rattle.unit_core.specs.declared.Submission.{Submission}
use Rattle.unit_core.specs.Units.{UnitState, is_stalled, queue_length}
use Rattle.unit_core.specs.Histories.{History, state_at}

-- its requester is known to the unit, and stalled
abbrev pub HasStalledRequester : UnitState → Submission → Type 0
HasStalledRequester x item = (is_known x.registers item.access.rrid ≡ true) × (is_stalled x item.access.rrid ≡ true)

pub record HasQueueInOrder (x : UnitState) : Type 0 where
  pub stalled : All (λ (item : Submission). item.queued ≡ true → HasStalledRequester x item) x.submissions
  pub fits : queue_length x ≤ x.registers.shape.queue

-- In the state before each event, and at the end, each queued submission has a known, stalled
-- requester, and the queue has at most its size.
abbrev pub LawQueued : Type 0
LawQueued = (h : History) (k u : ℕ) → IfSome (state_at h k u) HasQueueInOrder
