-- A record is at most as long as its section.
use Rattle.std.proofs.Common.{ℕ, ◌≤◌, List, [], ◌∷◌, Option, Some, None, length, sum_by}
use Rattle.std.specs.Prelude.{IfSome}
use Rattle.std.specs.List.{AllByRecursion}
use Rattle.event_words.specs.declared.event.Event.{Event}
use Rattle.event_words.specs.declared.record.LoggedEvent.{LoggedEvent}
use Rattle.event_words.specs.declared.record.SectionEnd.{SectionEnd}
use Rattle.event_words.specs.declared.section.Command.{Command}
use Rattle.event_words.specs.declared.section.Command.TheVariants.{Write}
use Rattle.event_words.specs.Sections.{SectionOf, most_events}
use Rattle.event_words.specs.Records.{section_end}
use Rattle.event_words.proofs.RecordBounds.{HoldsOfOthers, MayWrite, HasEvent, record_bounded}

abbrev IsAny : Event → Type 0
IsAny e = Unit {0}

any_others : HoldsOfOthers IsAny
any_others = record { read = λ u c i. tt; submit = λ u c a. tt; judge = λ u c p. tt; aim = λ c a. tt; wide = λ u c r k n. tt }

any_writes : (caller : ℕ) (cs : List Command) → AllByRecursion (MayWrite IsAny caller) cs
any_writes caller [] = tt
any_writes caller (c ∷ cs) = (any_write c, any_writes caller cs)
  where
    any_write : (c : Command) → MayWrite IsAny caller c
    any_write (Write unit index value) = tt
    any_write _ = tt

pub record_length : (caller : ℕ) (section : SectionOf) (xs : List LoggedEvent) → IfSome (section_end caller section xs) (λ end. length xs ≤ sum_by most_events section.commands)
record_length caller section xs = by (section_end caller section xs) (record_bounded IsAny any_others caller section.commands (any_writes caller section.commands) [] xs)
  where
    by : (o : Option SectionEnd) → IfSome o (λ end. (length xs ≤ sum_by most_events section.commands) × AllByRecursion (HasEvent IsAny) xs)
        → IfSome o (λ end. length xs ≤ sum_by most_events section.commands)
    by None h = tt
    by (Some end) h = h.0
