-- When a submission is answered Busy.
use Rattle.std.specs.Prelude.{◌≡◌, ℕ, true, false, Some}
use Rattle.event_words.specs.declared.access.Access.{Access}
use Rattle.event_words.specs.declared.reply.Reply.TheVariants.{Busy}
use Rattle.event_words.specs.declared.register.Register.TheVariants.{ErrCfg}
use Rattle.event_words.specs.Registers.{has_bit}
use Rattle.event_words.specs.Guards.{reg}
use Rattle.unit_core.specs.Units.{UnitState, is_stalled, queue_length}
use Rattle.unit_core.specs.Histories.{History, state_at, reply_at}
use Rattle.unit_core.specs.Submitted.{IsSubmission}

-- Place k is a submission. In the state at that place its requester is stalled, the queue of its unit
-- holds as many submissions as its size, and ERR_CFG has bit 3, stall violations, clear.
pub record FindsFullQueue (h : History) (k : ℕ) : Type 0 where
  pub unit : ℕ
  pub caller : ℕ
  pub access : Access
  pub state : UnitState
  pub event : IsSubmission h k unit caller access
  pub here : state_at h k unit ≡ Some state
  pub stalled : is_stalled state access.rrid ≡ true
  pub full : queue_length state ≡ state.registers.shape.queue
  pub silent : has_bit (reg state.registers ErrCfg) 3 ≡ false

-- Busy stands only where the queue is full.
abbrev pub KeepsBusy : History → Type 0
KeepsBusy h = (k : ℕ) → reply_at h k ≡ Some Busy → FindsFullQueue h k
