-- An event with its line.
use Rattle.std.specs.Prelude.{◌≡◌, ℕ, ◌+◌, ◌≤◌, List, Some, length, drop}
use Rattle.event_words.specs.declared.record.LoggedEvent.{LoggedEvent}
use Rattle.event_words.specs.ReportLines.{event_end, event_line}
use Rattle.event_words.specs.Word.{event_of_word}

-- The word and the line are the event's. The first bytes of the line are the place.
pub record IsListed (word : ℕ) (logged : LoggedEvent) (line : List ℕ) (front : ℕ) : Type 0 where
  pub event : event_of_word word ≡ Some logged.event
  pub text : line ≡ event_line logged
  pub end : drop front line ≡ event_end logged.event logged.reply
  pub within : front ≤ length line
  pub few : length line ≤ 236 + front
