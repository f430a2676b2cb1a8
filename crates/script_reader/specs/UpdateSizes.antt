-- How long the parts of an update's input are, and in which lines they stand.
use Rattle.std.specs.Prelude.{◌≡◌, ℕ, ◌+◌, ◌-◌, ◌≤◌, [], length}
use Rattle.script_reader.specs.declared.update_text.ExpectedPart.{ExpectedPart}
use Rattle.script_reader.specs.declared.update_text.ExpectedPart.TheVariants.{Old, New, Polls, Lanes, Nothing, Rest}
use Rattle.script_reader.specs.UpdateTexts.{UpdateTextOf, UpdateState}

abbrev pub HasNoLanes : UpdateTextOf → Type 0
HasNoLanes t = (t.lanes ≡ []) × (t.first_line ≡ 0)

abbrev pub HasPolls : UpdateTextOf → Type 0
HasPolls t = (1 ≤ t.polls) × (t.polls ≤ 4096)

-- The lines before line n have `size` bytes, where each has one more for its end.
abbrev pub Fits : ExpectedPart → UpdateTextOf → ℕ → ℕ → Type 0
Fits Old t size n = (n ≤ size + 1) × HasNoLanes t
Fits New t size n = (n ≤ size) × HasNoLanes t
Fits Polls t size n = (n + 1 ≤ size) × HasNoLanes t
Fits Lanes t size n = (n + 2 ≤ size) × HasNoLanes t × HasPolls t
Fits Nothing t size n = (n + 2 ≤ size) × HasNoLanes t × HasPolls t
Fits Rest t size n = (t.first_line + 3 ≤ size) × (length t.lanes + 3 ≤ size) × HasPolls t

abbrev pub FitsState : UpdateState → ℕ → ℕ → Type 0
FitsState s size n = Fits s.wanted s.text size n

-- What holds of a whole input of so many bytes, with one for the end of each line.
pub record FitsWhole (t : UpdateTextOf) (size : ℕ) : Type 0 where
  pub polls : HasPolls t
  pub lanes : length t.lanes ≤ size - 3
  pub first_line : t.first_line ≤ size - 3
