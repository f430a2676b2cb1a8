-- A section without writes has a record without writes.
use Rattle.std.proofs.Common.{◌≡◌, ℕ, ◌≤◌, List, [], ◌∷◌, Option, Some, None, length, sum_by}
use Rattle.std.specs.Prelude.{IfSome}
use Rattle.std.specs.List.{AllByRecursion}
use Rattle.event_words.specs.declared.event.Event.{Event}
use Rattle.event_words.specs.declared.event.Event.TheVariants as events
use Rattle.event_words.specs.declared.record.LoggedEvent.{LoggedEvent}
use Rattle.event_words.specs.declared.record.SectionEnd.{SectionEnd}
use Rattle.event_words.specs.declared.section.Command.{Command}
use Rattle.event_words.specs.declared.section.Command.TheVariants.{Write}
use Rattle.event_words.specs.Records.{OpenSlot, end_of_commands}
use Rattle.event_words.specs.Sections.{IsNoRegisterWrite as IsQuiet, most_events}
use Rattle.event_words.proofs.RecordBounds.{HoldsOfOthers, MayWrite, record_bounded}

-- ---- events that write nothing

abbrev pub IsNoWriteEvent : Event → Type 0
IsNoWriteEvent (events.RegWrite unit caller index value) = ⊥
IsNoWriteEvent _ = Unit {0}

abbrev pub IsNoLoggedWrite : LoggedEvent → Type 0
IsNoLoggedWrite x = IsNoWriteEvent x.event

abbrev pub HaveNoWrites : List LoggedEvent → Type 0
HaveNoWrites = AllByRecursion IsNoLoggedWrite

-- ---- a whole record

others : HoldsOfOthers IsNoWriteEvent
others = record { read = λ u c i. tt; submit = λ u c a. tt; judge = λ u c p. tt; aim = λ c a. tt; wide = λ u c r k n. tt }

no_writes : (caller : ℕ) (cs : List Command) → AllByRecursion IsQuiet cs → AllByRecursion (MayWrite IsNoWriteEvent caller) cs
no_writes caller [] q = tt
no_writes caller (c ∷ cs) q = (no_write c q.0, no_writes caller cs q.1)
  where
    no_write : (c : Command) → IsQuiet c → MayWrite IsNoWriteEvent caller c
    no_write (Write unit index value) q = q
    no_write _ q = tt

pub quiet_record : (caller : ℕ) (cs : List Command) → AllByRecursion IsQuiet cs → (slots : List (Option OpenSlot)) (xs : List LoggedEvent)
    → IfSome (end_of_commands caller cs slots xs) (λ e. HaveNoWrites xs)
quiet_record caller cs q slots xs = by (end_of_commands caller cs slots xs) (record_bounded IsNoWriteEvent others caller cs (no_writes caller cs q) slots xs)
  where
    by : (o : Option SectionEnd) → IfSome o (λ e. (length xs ≤ sum_by most_events cs) × HaveNoWrites xs) → IfSome o (λ e. HaveNoWrites xs)
    by None h = tt
    by (Some end) h = h.1
