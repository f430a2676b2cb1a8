-- What events of one caller do to it.
use Rattle.std.specs.Prelude.{◌≡◌, ℕ, ◌+◌, List, ◌++◌, length}
use Rattle.event_words.specs.declared.reply.Reply.{Reply}
use Rattle.event_words.specs.declared.record.LoggedEvent.{LoggedEvent}
use Rattle.shared_log.specs.Callers.{CallerView}
use Rattle.shared_log.specs.OwnEvents.{own_events}

module _ {M S : Type 0} (after : S → ℕ → ℕ → S) (reply : S → ℕ → ℕ → Reply) where
  -- The caller made exactly these events more, each of which has its place in the log and the reply of
  -- the machine there. The log became longer, and nothing else changed but the machine and what is left.
  pub record MakesEvents (c : CallerView M S) (made : List LoggedEvent) (d : CallerView M S) : Type 0 where
    pub own : own_events after reply d ≡ own_events after reply c ++ made
    pub later : List ℕ
    pub log : d.log ≡ c.log ++ later
    pub left : d.left + length made ≡ c.left
    pub same : d ≡ record c { log = d.log; left = d.left; machine = d.machine }
