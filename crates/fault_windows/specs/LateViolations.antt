-- Late violations: those that come while the unit's error record holds an earlier one.
use Rattle.std.specs.Prelude.{ℕ, ◌&&◌, nat_eq, Bool, false, Option, Some, None, option_map}
use Rattle.std.specs.Option.{option_eq}
use Rattle.event_words.specs.declared.event.Event.{Event}
use Rattle.event_words.specs.declared.event.Event.TheVariants.{Submit, Judge}
use Rattle.event_words.specs.declared.reply.Reply.{Reply}
use Rattle.event_words.specs.declared.reply.Reply.TheVariants as replies
use Rattle.event_words.specs.declared.reply.Verdict.TheVariants as verdicts
use Rattle.event_words.specs.declared.register.Register.TheVariants.{ErrInfo}
use Rattle.event_words.specs.Events.{unit_of}
use Rattle.event_words.specs.Registers.{has_bit}
use Rattle.event_words.specs.Guards.{reg}
use Rattle.unit_core.specs.Submissions.{SubmittedAccess}
use Rattle.unit_core.specs.Units.{UnitState}
use Rattle.unit_core.specs.Histories.{History, state_at, reply_at}
use Rattle.unit_core.specs.Submitted.{taken_at, submission_at}

-- ---- whose access an event submits or judges

abbrev pub requester_in : Option SubmittedAccess → Option ℕ
requester_in = option_map (λ s. s.access.rrid)

-- The requester of the access that an event submits, as its unit takes it, or of the submission that it judges.
abbrev pub requester_of : History → Event → Option ℕ
requester_of h (Submit unit caller access) = Some access.rrid
requester_of h (Judge unit caller place) = requester_in (submission_at h place)
requester_of h _ = None

-- ---- violations

-- a violation that is kept: it goes into the error record where that is free
abbrev pub is_kept_violation : Reply → Bool
is_kept_violation (replies.Stalled denial) = denial.kept
is_kept_violation (replies.Verdict (verdicts.Denied denial)) = denial.kept
is_kept_violation _ = false

-- the error record of a unit holds a violation: bit 0 of ERR_INFO is 1
abbrev pub is_recorded : Option UnitState → Bool
is_recorded None = false
is_recorded (Some x) = has_bit (reg x.registers ErrInfo) 0

abbrev pub is_late_by : History → ℕ → ℕ → ℕ → Option Event → Option Reply → Bool
is_late_by h u s k (Some event) (Some reply) =
    option_eq nat_eq (unit_of event) (Some u)
    && (option_eq nat_eq (requester_of h event) (Some s)
    && (is_kept_violation reply && is_recorded (state_at h k u)))
is_late_by h u s k _ _ = false

-- Place k replies a kept violation of an access of requester s on unit u, whose error record holds
-- another violation by then. A wide access is that of its caller's aim.
abbrev pub is_late : History → ℕ → ℕ → ℕ → Bool
is_late h u s k = is_late_by h u s k (taken_at h k) (reply_at h k)
