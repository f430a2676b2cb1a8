-- A history replayed.
use Rattle.std.specs.Prelude.{◌≡◌, ℕ, List}
use Rattle.event_words.specs.declared.shape.Shape.{Shape}
use Rattle.unit_core.specs.Histories.{logged_in, units_after}
use Rattle.history_reports.specs.declared.replay.Replay.{Replay}

-- The events with their replies, and the units after the last event, of words on units of these shapes.
pub record IsReplay (replay : Replay) (shapes : List Shape) (words : List ℕ) : Type 0 where
  pub events : replay.events.items ≡ logged_in shapes words
  pub units : replay.units.state.units ≡ units_after shapes words
