-- Lists of event words.
use Rattle.std.specs.Prelude.{◌≡◌, ℕ, zero, suc, ◌==◌, List, [], ◌∷◌, ◌++◌, filter}
use Rattle.std.specs.List.{AllByRecursion}
use Rattle.event_words.specs.Runs.{caller_of_word, IsEventWord}

-- the words of one caller, in their order
abbrev pub words_by : ℕ → List ℕ → List ℕ
words_by c words = filter (λ w. caller_of_word w == c) words

abbrev pub AllEventWords : List ℕ → Type 0
AllEventWords words = AllByRecursion IsEventWord words

-- The list begins with this log, and after it comes no word of c.
pub record BeginsWithLog (c : ℕ) (words log : List ℕ) : Type 0 where
  pub rest : List ℕ
  pub begins : words ≡ log ++ rest
  pub no_more : words_by c rest ≡ []

-- the words before the first 0
abbrev pub words_before_zero : List ℕ → List ℕ
words_before_zero [] = []
words_before_zero (zero ∷ ws) = []
words_before_zero (suc n ∷ ws) = suc n ∷ words_before_zero ws
