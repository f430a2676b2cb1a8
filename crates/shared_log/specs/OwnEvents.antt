-- What a caller's log tells of the caller itself.
use Rattle.std.specs.Prelude.{ℕ, List}
use Rattle.event_words.specs.declared.reply.Reply.{Reply}
use Rattle.event_words.specs.declared.record.LoggedEvent.{LoggedEvent}
use Rattle.event_words.specs.Records.{events_by}
use Rattle.event_words.specs.Runs.{logged}
use Rattle.shared_log.specs.Callers.{CallerView}

-- The caller's own events, each with its place and the reply of a machine with these meanings there.
abbrev pub own_events : {M S : Type 0} → (S → ℕ → ℕ → S) → (S → ℕ → ℕ → Reply) → CallerView M S → List LoggedEvent
own_events after reply c = events_by c.number (logged after reply c.first c.log)
