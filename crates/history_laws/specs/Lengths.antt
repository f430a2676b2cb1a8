-- How long the record of a section can be.
use Rattle.std.specs.Prelude.{ℕ, ◌≤◌, List, IfSome, length}
use Rattle.event_words.specs.declared.record.LoggedEvent.{LoggedEvent}
use Rattle.event_words.specs.Sections.{SectionOf, most_section_events}
use Rattle.event_words.specs.Records.{section_end}

-- No whole record of a section is longer than the most events that its commands make.
abbrev pub LawLengths : Type 0
LawLengths = (caller : ℕ) (section : SectionOf) (events : List LoggedEvent)
    → IfSome (section_end caller section events) (λ end. length events ≤ most_section_events section)
