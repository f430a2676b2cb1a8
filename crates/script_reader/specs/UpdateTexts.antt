-- The input of a live update: headings, and what stands between them.
--
-- `== old`, the old policy's lines, `== new`, the new policy's lines, `== polls N`, and where lanes are wanted
-- `== lanes` and their lines. A line with exactly the words of the next heading ends the part before it.
use Rattle.std.specs.Prelude.{ℕ, ◌+◌, ◌&&◌, ◌==◌, not, Bool, if◌then◌else◌, List, [], ◌∷◌, ◌++◌, length, codes, Ok, Err}
use Rattle.std.specs.declared.result.Result.{Result}
use Rattle.std.specs.List.{list_all}
use Rattle.script_reader.specs.declared.update_text.ExpectedPart.{ExpectedPart}
use Rattle.script_reader.specs.declared.update_text.ExpectedPart.TheVariants.{Old, New, Polls, Lanes, Nothing, Rest}
use Rattle.script_reader.specs.Codes.{◌>>=◌, not_plain, no_head, misplaced}
use Rattle.script_reader.specs.Text.{is_plain, lines_of, words_of}
use Rattle.script_reader.specs.Numbers.{ranged}
use Rattle.script_reader.specs.Words.{word_at, is_word_at}
use Rattle.script_reader.specs.Lines.{is_skipped}
use Rattle.script_reader.specs.Scripts.{Bad, at_line}

-- What the headings part: the texts of two policies, the number of polls, and the text of lanes with the
-- number of its first line.
pub record UpdateTextOf : Type 0 where
  pub old : List ℕ
  pub new : List ℕ
  pub polls : ℕ
  pub lanes : List ℕ
  pub first_line : ℕ

-- what the lines so far gave, and which heading is wanted next
pub record UpdateState : Type 0 where
  pub wanted : ExpectedPart
  pub text : UpdateTextOf

-- ---- headings

abbrev pub is_heading : List (List ℕ) → List ℕ → Bool
is_heading words name = length words == 2 && (is_word_at words 0 (codes "==") && is_word_at words 1 name)

-- with any third word
abbrev pub is_polls_heading : List (List ℕ) → Bool
is_polls_heading words = length words == 3 && (is_word_at words 0 (codes "==") && is_word_at words 1 (codes "polls"))

-- ---- one function for each heading that is wanted

-- a part with one line more
abbrev pub with_line : List ℕ → List ℕ → List ℕ
with_line part line = part ++ (line ++ 10 ∷ [])

unfoldable pub old_step : UpdateTextOf → List ℕ → Result UpdateState ℕ
old_step t line =
    if not (list_all is_plain line) then Err not_plain
    else (if is_skipped (words_of line) then Ok (record { wanted = Old; text = t })
    else (if is_heading (words_of line) (codes "old") then Ok (record { wanted = New; text = t })
    else Err no_head))

unfoldable pub new_step : UpdateTextOf → List ℕ → Result UpdateState ℕ
new_step t line =
    if is_heading (words_of line) (codes "new") then Ok (record { wanted = Polls; text = t })
    else Ok (record { wanted = New; text = record t { old = with_line t.old line } })

-- after the number of polls comes what the input is for
unfoldable pub polls_step : ExpectedPart → UpdateTextOf → List ℕ → Result UpdateState ℕ
polls_step after t line =
    if not (is_polls_heading (words_of line)) then Ok (record { wanted = Polls; text = record t { new = with_line t.new line } })
    else (if not (list_all is_plain line) then Err not_plain
    else (ranged 1 4096 (word_at (words_of line) 2) >>= λ n. Ok (record { wanted = after; text = record t { polls = n } })))

-- the lanes begin in the line after their heading, which has the number n
unfoldable pub lanes_step : UpdateTextOf → ℕ → List ℕ → Result UpdateState ℕ
lanes_step t n line =
    if not (list_all is_plain line) then Err not_plain
    else (if is_skipped (words_of line) then Ok (record { wanted = Lanes; text = t })
    else (if is_heading (words_of line) (codes "lanes") then Ok (record { wanted = Rest; text = record t { first_line = n + 1 } })
    else Err misplaced))

unfoldable pub nothing_step : UpdateTextOf → List ℕ → Result UpdateState ℕ
nothing_step t line =
    if not (list_all is_plain line) then Err not_plain
    else (if is_skipped (words_of line) then Ok (record { wanted = Nothing; text = t })
    else Err misplaced)

abbrev pub rest_step : UpdateTextOf → List ℕ → Result UpdateState ℕ
rest_step t line = Ok (record { wanted = Rest; text = record t { lanes = with_line t.lanes line } })

-- ---- any line, of which this is the number

abbrev pub wanted_step : ExpectedPart → ExpectedPart → UpdateTextOf → ℕ → List ℕ → Result UpdateState ℕ
wanted_step Old after t n line = old_step t line
wanted_step New after t n line = new_step t line
wanted_step Polls after t n line = polls_step after t line
wanted_step Lanes after t n line = lanes_step t n line
wanted_step Nothing after t n line = nothing_step t line
wanted_step Rest after t n line = rest_step t line

abbrev pub update_step : ExpectedPart → UpdateState → ℕ → List ℕ → Result UpdateState ℕ
update_step after s n line = wanted_step s.wanted after s.text n line

-- ---- all lines

abbrev pub no_text : UpdateTextOf
no_text = record { old = []; new = []; polls = 0; lanes = []; first_line = 0 }

abbrev pub update_start : UpdateState
update_start = record { wanted = Old; text = no_text }

-- the end of the lines, where `n` is the number of lines plus 1
abbrev pub update_end : ExpectedPart → UpdateTextOf → ℕ → Result UpdateTextOf Bad
update_end Old t n = Err (record { line = n; code = no_head })
update_end Nothing t n = Ok t
update_end Rest t n = Ok t
update_end _ t n = Err (record { line = n; code = misplaced })

-- the lines from number n on
abbrev pub update_from : ExpectedPart → UpdateState → ℕ → List (List ℕ) → Result UpdateTextOf Bad
update_from after s n [] = update_end s.wanted s.text n
update_from after s n (line ∷ lines) = at_line n (update_step after s n line) (λ t. update_from after t (n + 1) lines)

-- what follows the number of polls
abbrev pub after_polls : Bool → ExpectedPart
after_polls with_lanes = if with_lanes then Lanes else Nothing

-- The parts of an input, with lanes or without, or the first bad line of those outside the policies and the lanes.
abbrev pub update_text_at : Bool → List ℕ → Result UpdateTextOf Bad
update_text_at with_lanes bytes = update_from (after_polls with_lanes) update_start 1 (lines_of bytes)
