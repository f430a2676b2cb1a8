-- The lines after those of the events, as they are to come, and where they first don't.
use Rattle.std.specs.Prelude.{◌≡◌, ℕ, ◌+◌, List, [], ◌∷◌, ◌++◌, Option, None, Some, length}
use Rattle.section_cursor.specs.Cursors.{CursorOf, rest_end}
use Rattle.event_words.specs.ReportLines.{section_line}
use Rattle.script_reader.specs.ReportTexts.{fed_lines}

-- the lines of the sections' ends by their cursors, of which the first has the number i
abbrev pub cursor_lines : ℕ → List CursorOf → List (List ℕ)
cursor_lines i [] = []
cursor_lines i (c ∷ cs) = section_line i (rest_end c []) ∷ cursor_lines (i + 1) cs

-- Of the lines that are to come, so many came, and what is left of both.
pub record HaveCome (number : ℕ) (wanted todo lines left : List (List ℕ)) : Type 0 where
  pub before : List (List ℕ)
  pub as_many : length before ≡ number
  pub wanted_is : wanted ≡ before ++ todo
  pub lines_are : lines ≡ before ++ left

-- The line of this number among those that are to come is the first that doesn't come.
pub record IsOther (number : ℕ) (wanted lines : List (List ℕ)) : Type 0 where
  pub line : List ℕ
  pub todo : List (List ℕ)
  pub left : List (List ℕ)
  pub come : HaveCome number wanted (line ∷ todo) lines left
  pub other : (rest : List (List ℕ)) → left ≡ line ∷ rest → ⊥

-- All of them come next, or this is the first that doesn't.
abbrev pub Come : Option ℕ → List (List ℕ) → List ℕ → List ℕ → Type 0
Come None wanted old new = fed_lines old ≡ wanted ++ fed_lines new
Come (Some number) wanted old new = IsOther number wanted (fed_lines old)
