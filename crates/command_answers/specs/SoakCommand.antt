-- What `soak` answers.
use Rattle.std.specs.Prelude.{◌≡◌, ℕ, List}
use Rattle.script_generator.specs.Summaries.{soak_text}
use Rattle.script_generator.specs.SoakHistories.{IsSoak}

-- a history of the generated script and the summary, which is the same at each run
pub record IsSoaked (number : ℕ) (history text : List ℕ) : Type 0 where
  pub soak : IsSoak number history
  pub printed : text ≡ soak_text number
