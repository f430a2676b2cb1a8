-- The words of a line by their places, from 0.
use Rattle.std.specs.Prelude.{◌≡◌, ◌==◌, ℕ, ◌+◌, ◌<◌, ◌≤◌, if◌then◌else◌, Bool, List, [], ◌∷◌, length, drop, slice_index, slice_index_or, slice_range}
use Rattle.std.specs.Str.{bytes_eq}
use Rattle.script_reader.specs.Text.{words_of}

abbrev pub word_at : List (List ℕ) → ℕ → List ℕ
word_at words i = slice_index_or words i []

abbrev pub is_word_at : List (List ℕ) → ℕ → List ℕ → Bool
is_word_at words i text = bytes_eq (word_at words i) text

-- a word stands from one place of a line to another
pub record StandsAt (line : List ℕ) (start end : ℕ) (word : List ℕ) : Type 0 where
  pub forward : start ≤ end
  pub within : end ≤ length line
  pub bytes : slice_range line start end ≡ word

-- the place after a space that stands at a place, and else that place
abbrev pub after_space : List ℕ → ℕ → ℕ
after_space text at = if slice_index text at == 32 then at + 1 else at

-- the first word from a place on begins there and ends at another, after which come the others
pub record IsWordTo (line : List ℕ) (start end : ℕ) : Type 0 where
  pub forward : start < end
  pub within : end ≤ length line
  pub words : words_of (drop start line) ≡ slice_range line start end ∷ words_of (drop end line)

-- places at which the first 19 words of a line stand, and the number of all its words
pub record HoldsWords (line starts ends : List ℕ) (count : ℕ) : Type 0 where
  pub all : count ≡ length (words_of line)
  pub places : (i : ℕ) → i < count → i < 19 → StandsAt line (slice_index starts i) (slice_index ends i) (word_at (words_of line) i)
