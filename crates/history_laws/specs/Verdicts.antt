-- A verdict is the decision of the state at its place.
use Rattle.std.specs.Prelude.{◌≡◌, ℕ, ◌<◌, Some}
use Rattle.event_words.specs.declared.access.Access.{Access}
use Rattle.event_words.specs.declared.reply.Decision.{Decision}
use Rattle.event_words.specs.declared.reply.Decision.TheVariants as decisions
use Rattle.event_words.specs.declared.reply.Verdict.{Verdict as AnyVerdict}
use Rattle.event_words.specs.declared.reply.Verdict.TheVariants as verdicts
use Rattle.event_words.specs.declared.event.Event.TheVariants.{Judge}
use Rattle.event_words.specs.declared.reply.Reply.TheVariants.{Verdict}
use Rattle.event_words.specs.Decisions.{decision}
use Rattle.event_words.specs.Denials.{denial}
use Rattle.unit_core.specs.Units.{UnitState, next_rrid}
use Rattle.unit_core.specs.Histories.{History, state_at, event_at, reply_at}
use Rattle.history_laws.specs.Tickets.{IsTaken}

-- the verdict that a decision gives: the requester that goes on, or the denial
abbrev pub verdict_of : UnitState → Access → Decision → AnyVerdict
verdict_of x access decisions.Allowed = verdicts.Allowed (next_rrid x access)
verdict_of x access (decisions.Denied kind entry mute_irq mute_err) =
    verdicts.Denied (denial x.registers kind entry mute_irq mute_err)

-- what the registers of a unit decide on an access
abbrev pub decided : UnitState → Access → AnyVerdict
decided x access = verdict_of x access (decision x.registers access)

-- Before it stands a submission of the judged place by the same caller on the same unit, which was
-- passed or queued, and the verdict is what the unit's registers decide on its access.
pub record IsDecided (h : History) (u caller q p : ℕ) (verdict : AnyVerdict) : Type 0 where
  pub access : Access
  pub state : UnitState
  pub before : q < p
  pub submission : IsTaken h u caller q access
  pub here : state_at h p u ≡ Some state
  pub verdict_is : verdict ≡ decided state access

-- A verdict is what the registers of its place decide on its submission's access.
abbrev pub LawVerdicts : Type 0
LawVerdicts = (h : History) (u caller q p : ℕ) (verdict : AnyVerdict) → event_at h p ≡ Some (Judge u caller q)
    → reply_at h p ≡ Some (Verdict verdict) → IsDecided h u caller q p verdict
