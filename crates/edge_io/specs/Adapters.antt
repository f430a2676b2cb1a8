-- What an adapter over a reader or a writer is seen as.
use Rattle.std.specs.Prelude.{ℕ}

-- a reader or a writer, and how often it failed
pub record Counted (T : Type 0) : Type 0 where
  pub inner : T
  pub faults : ℕ
