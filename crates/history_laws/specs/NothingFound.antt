-- Where the units answer that there is nothing of which a word speaks.
use Rattle.std.specs.Prelude.{◌≡◌, ℕ, ◌+◌, ◌^◌, ◌<◌, ◌≤◌, ◌⊎◌, ◌↔◌, Option, Some, None, length, slice_get, IfSome, IsSomeAnd, All}
use Rattle.event_words.specs.declared.event.Event.{Event}
use Rattle.event_words.specs.declared.event.Event.TheVariants.{Judge, Wide}
use Rattle.event_words.specs.declared.reply.Reply.TheVariants.{NoSuch}
use Rattle.event_words.specs.Word.{event_of_word}
use Rattle.event_words.specs.Events.{unit_of}
use Rattle.unit_core.specs.declared.Submission.{Submission}
use Rattle.unit_core.specs.Units.{UnitState, FabricState, aim_of}
use Rattle.unit_core.specs.Fabrics.{state_after_word, reply_to_word}

-- the unit of which the event speaks isn't there
abbrev pub HasNoUnit : FabricState → Event → Type 0
HasNoUnit s e = IsSomeAnd (unit_of e) (λ u. length s.units ≤ u)

-- no submission of the caller at this place is open on the unit
abbrev pub HasNoneOpen : ℕ → ℕ → UnitState → Type 0
HasNoneOpen place caller x =
    All (λ (item : Submission). item.place ≡ place → item.caller ≡ caller → ⊥) x.submissions

-- a judgement of none of its caller's submissions that are open on its unit
abbrev pub JudgesNothing : FabricState → Event → Type 0
JudgesNothing s (Judge unit caller place) = IfSome (slice_get s.units unit) (HasNoneOpen place caller)
JudgesNothing s _ = ⊥

-- a wide submission that would end past the last address
abbrev pub EndsPastAll : FabricState → Event → Type 0
EndsPastAll s (Wide unit caller rrid kind len) = 2 ^ 52 < aim_of s.aims caller + len
EndsPastAll s _ = ⊥

-- a word that is no event's, or one of these
abbrev pub FindsNothing : FabricState → Option Event → Type 0
FindsNothing s None = Unit {0}
FindsNothing s (Some e) = (HasNoUnit s e ⊎ JudgesNothing s e) ⊎ EndsPastAll s e

pub record IsNoSuchExactly (s : FabricState) (place word : ℕ) : Type 0 where
  pub exactly : (reply_to_word s place word ≡ NoSuch) ↔ FindsNothing s (event_of_word word)
  -- nothing changes then
  pub stays : reply_to_word s place word ≡ NoSuch → state_after_word s place word ≡ s

-- So for each word at each place, in every state of units and aims.
abbrev pub LawNoSuch : Type 0
LawNoSuch = (s : FabricState) (place word : ℕ) → IsNoSuchExactly s place word
