-- Where the lanes of a script write no register, the registers after the boot section's events decide
-- every verdict, in whatever order the lanes come.
use Rattle.std.specs.Prelude.{◌≡◌, ℕ, ◌≤◌, ◌==◌, Bool, List, Some, filter, slice_get}
use Rattle.std.specs.List.{AllByRecursion}
use Rattle.event_words.specs.declared.shape.Shape.{Shape}
use Rattle.event_words.specs.declared.access.Access.{Access}
use Rattle.event_words.specs.declared.reply.Verdict.{Verdict as AnyVerdict}
use Rattle.event_words.specs.declared.event.Event.TheVariants.{Judge}
use Rattle.event_words.specs.declared.reply.Reply.TheVariants.{Verdict}
use Rattle.event_words.specs.Runs.{caller_of_word}
use Rattle.event_words.specs.Sections.{SectionOf, HasNoRegisterWrites}
use Rattle.unit_core.specs.Units.{UnitState}
use Rattle.unit_core.specs.Histories.{IsLegalHistory, history_of, units_after, event_at, reply_at}
use Rattle.history_laws.specs.Tickets.{IsTaken}
use Rattle.history_laws.specs.Verdicts.{decided}

abbrev pub is_boot : ℕ → Bool
is_boot word = caller_of_word word == 0

-- The units after the boot section's events.
abbrev pub units_after_boot : List Shape → List ℕ → List UnitState
units_after_boot shapes words = units_after shapes (filter is_boot words)

-- Place q is a submission of the caller on unit u, which was passed or queued, and the verdict is what the
-- unit's registers after the boot section's events decide on its access.
pub record IsDecidedByBoot (shapes : List Shape) (words : List ℕ) (u caller q : ℕ) (verdict : AnyVerdict) : Type 0 where
  pub access : Access
  pub state : UnitState
  pub submission : IsTaken (history_of shapes words) u caller q access
  pub booted : slice_get (units_after_boot shapes words) u ≡ Some state
  pub verdict_is : verdict ≡ decided state access

-- In a legal history of a script whose lanes write no register, each verdict on a lane's judgement is
-- decided so.
abbrev pub LawUnwritten : Type 0
LawUnwritten = (shapes : List Shape) (boot : SectionOf) (lanes : List SectionOf) (words : List ℕ) → IsLegalHistory shapes boot lanes words
    → AllByRecursion HasNoRegisterWrites lanes
    → (u caller q p : ℕ) (verdict : AnyVerdict) → 1 ≤ caller → event_at (history_of shapes words) p ≡ Some (Judge u caller q)
    → reply_at (history_of shapes words) p ≡ Some (Verdict verdict) → IsDecidedByBoot shapes words u caller q verdict
