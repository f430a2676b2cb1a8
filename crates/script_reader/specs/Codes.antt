-- The codes of bad lines, and checks that are made one after another.
use Rattle.std.specs.Prelude.{ℕ, Ok, Err}
use Rattle.std.specs.declared.result.Result.{Result}

-- a byte that may not stand in a line
abbrev pub not_plain : ℕ
not_plain = 1

-- another line where `iopmp 1` must stand
abbrev pub no_head : ℕ
no_head = 2

-- a line that may not stand here
abbrev pub misplaced : ℕ
misplaced = 3

-- a wrong number of words, or a fixed word that isn't in its place
abbrev pub misshapen : ℕ
misshapen = 4

abbrev pub not_a_number : ℕ
not_a_number = 5

abbrev pub out_of_range : ℕ
out_of_range = 6

abbrev pub not_a_kind : ℕ
not_a_kind = 7

abbrev pub not_a_name : ℕ
not_a_name = 8

-- a name that a submission before it has
abbrev pub taken_name : ℕ
taken_name = 9

-- a name that no submission before it has
abbrev pub unknown_name : ℕ
unknown_name = 10

abbrev pub absent_unit : ℕ
absent_unit = 11

-- the check after, where the one before has no code
infixl 10 ◌>>=◌
abbrev pub ◌>>=◌ : {A B : Type 0} → Result A ℕ → (A → Result B ℕ) → Result B ℕ
(Ok x) >>= f = f x
(Err code) >>= f = Err code
