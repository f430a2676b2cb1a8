-- What a history has of a caller.
use Rattle.std.specs.Prelude.{◌≡◌, ℕ, ◌+◌, List, length}
use Rattle.shared_log.specs.Words.{words_by, BeginsWithLog}
use Rattle.shared_log.specs.Callers.{CallerView}

-- The history begins with the caller's log and holds exactly the caller's own events, in their order:
-- those of the budget that aren't left.
pub record HoldsCaller {M S : Type 0} (history : List ℕ) (c : CallerView M S) : Type 0 where
  pub log : BeginsWithLog c.number history c.log
  pub own : words_by c.number history ≡ words_by c.number c.log
  pub budget : c.left + length (words_by c.number history) ≡ c.budget
