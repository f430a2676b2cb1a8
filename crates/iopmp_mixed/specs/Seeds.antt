-- The seed that the first word is.
use Rattle.std.specs.Prelude.{ℕ, ◌^◌, List, [], ◌∷◌, None}
use Rattle.std.specs.declared.option.Option.{Option}
use Rattle.script_reader.specs.Numbers.{numeral_of, below}

-- 1 to 20 decimal digits, of a number of 64 bits
unfoldable pub seed_of : List ℕ → Option ℕ
seed_of word = below (2 ^ 64) (numeral_of 10 20 word)

abbrev pub first_seed : List (List ℕ) → Option ℕ
first_seed [] = None
first_seed (word ∷ others) = seed_of word
