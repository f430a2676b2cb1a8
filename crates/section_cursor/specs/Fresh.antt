-- Cursors before the first event.
use Rattle.std.specs.Prelude.{◌≡◌, ℕ, ◌+◌, ◌<◌, List, [], ◌∷◌}
use Rattle.event_words.specs.declared.record.LoggedEvent.{LoggedEvent}
use Rattle.event_words.specs.Records.{section_end}
use Rattle.event_words.specs.Sections.{SectionOf, IsValidSection}
use Rattle.section_cursor.specs.Cursors.{CursorOf, rest_end, HasAllTries}
use Rattle.section_cursor.specs.ValidEvents.{HasValidEvents}

-- All of the section is left to this caller.
pub record IsFresh (caller : ℕ) (section : SectionOf) (c : CursorOf) : Type 0 where
  pub number : c.caller ≡ caller
  pub whole : (xs : List LoggedEvent) → rest_end c xs ≡ section_end caller section xs
  pub tries : IsValidSection section → HasAllTries c
  pub valid : caller < 32 → IsValidSection section → HasValidEvents c

-- so for each section, of which the first has the number i
abbrev pub AreFresh : ℕ → List CursorOf → List SectionOf → Type 0
AreFresh i [] [] = Unit {0}
AreFresh i (c ∷ cs) (s ∷ ss) = IsFresh i s c × AreFresh (i + 1) cs ss
AreFresh i _ _ = ⊥
