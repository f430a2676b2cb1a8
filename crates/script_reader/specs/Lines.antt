-- Which line may stand where, which code a bad line has, and what a good one adds.
use Rattle.std.specs.Prelude.{ℕ, ◌+◌, ◌&&◌, ◌||◌, ◌==◌, nat_lt, not, Bool, if◌then◌else◌, List, [], ◌∷◌, ◌++◌, length, codes, Ok, Err, slice_index}
use Rattle.std.specs.declared.result.Result.{Result}
use Rattle.std.specs.List.{list_all}
use Rattle.event_words.specs.declared.shape.Shape.{Shape}
use Rattle.event_words.specs.declared.section.Command.{Command}
use Rattle.event_words.specs.Sections.{SectionOf}
use Rattle.script_reader.specs.declared.reader.ScriptPart.{ScriptPart}
use Rattle.script_reader.specs.declared.reader.LinesOf.{LinesOf}
use Rattle.script_reader.specs.declared.reader.LinesOf.TheVariants.{Script, Lanes}
use Rattle.script_reader.specs.declared.reader.ScriptPart.TheVariants.{Head, Units, Boot, Lane, Finished}
use Rattle.script_reader.specs.Codes.{◌>>=◌, not_plain, no_head, misplaced, misshapen, out_of_range}
use Rattle.script_reader.specs.Text.{is_plain, words_of}
use Rattle.script_reader.specs.Numbers.{number_at}
use Rattle.script_reader.specs.Words.{word_at, is_word_at}
use Rattle.script_reader.specs.UnitLines.{unit_line}
use Rattle.script_reader.specs.Names.{with_name}
use Rattle.script_reader.specs.Commands.{submit_at, command_at}

-- a section whose commands are being read, and the names of its submissions
pub record OpenSection : Type 0 where
  pub commands : List Command
  pub names : List (List ℕ)

abbrev pub new_section : OpenSection
new_section = record { commands = []; names = [] }

abbrev pub section_of : OpenSection → SectionOf
section_of open_section = record { commands = open_section.commands; slots = length open_section.names }

abbrev pub with_command : OpenSection → Command → OpenSection
with_command open_section command = record { commands = open_section.commands ++ command ∷ []; names = open_section.names }

-- a submission adds its name too
abbrev pub with_submission : OpenSection → Command → List ℕ → Result OpenSection ℕ
with_submission open_section command name =
    with_name open_section.names name >>= λ names. Ok (record { commands = open_section.commands ++ command ∷ []; names = names })

-- what the lines so far gave, and by the place which lines may come next
pub record State : Type 0 where
  pub place : ScriptPart
  pub shapes : List Shape
  pub boot : SectionOf
  pub lanes : List SectionOf
  pub section : OpenSection

-- ---- one function for each kind of line

abbrev pub is_head : List (List ℕ) → Bool
is_head words = length words == 2 && (is_word_at words 0 (codes "iopmp") && is_word_at words 1 (codes "1"))

unfoldable pub head_step : State → List (List ℕ) → Result State ℕ
head_step s words = if is_head words then Ok (record s { place = Units }) else Err no_head

unfoldable pub unit_step : State → List (List ℕ) → Result State ℕ
unit_step s words = unit_line words >>= λ shape. Ok (record s { shapes = s.shapes ++ shape ∷ [] })

unfoldable pub boot_step : State → List (List ℕ) → Result State ℕ
boot_step s words = if length words == 1 then Ok (record s { place = Boot }) else Err misshapen

-- the open section is whole, and another stands in its place
abbrev pub closed : ScriptPart → State → State
closed Lane s = record s { lanes = s.lanes ++ section_of s.section ∷ []; section = new_section }
closed _ s = record s { boot = section_of s.section; section = new_section }

unfoldable pub end_step : State → List (List ℕ) → Result State ℕ
end_step s words = if length words == 1 then Ok (record (closed s.place s) { place = Finished }) else Err misshapen

-- the number of the lane that would come next
abbrev pub next_lane : ScriptPart → List SectionOf → ℕ
next_lane Lane lanes = length lanes + 2
next_lane _ lanes = 1

-- a number, but not this one
abbrev pub is_other : ℕ → Result ℕ ℕ → Bool
is_other n (Ok m) = not (m == n)
is_other n (Err code) = code == out_of_range

unfoldable pub lane_step : State → List (List ℕ) → Result State ℕ
lane_step s words =
    if nat_lt 16 (next_lane s.place s.lanes) || is_other (next_lane s.place s.lanes) (number_at (word_at words 1)) then Err misplaced
    else (if length words == 2 then (number_at (word_at words 1) >>= λ n. Ok (record (closed s.place s) { place = Lane }))
    else Err misshapen)

-- a submission's name comes after its other words, and has the slot that is free
unfoldable pub submit_step : State → List (List ℕ) → Result State ℕ
submit_step s words = do
  command ← submit_at (length s.shapes) (length s.section.names) words
  section ← with_submission s.section command (word_at words 7)
  Ok (record s { section = section })

unfoldable pub command_step : State → List (List ℕ) → Result State ℕ
command_step s words = do
  command ← command_at (length s.shapes) s.section.names words
  Ok (record s { section = with_command s.section command })

-- ---- any line

unfoldable pub units_step : State → List (List ℕ) → Result State ℕ
units_step s words =
    if is_word_at words 0 (codes "unit") && nat_lt (length s.shapes) 4 then unit_step s words
    else (if is_word_at words 0 (codes "boot") && nat_lt 0 (length s.shapes) then boot_step s words
    else Err misplaced)

unfoldable pub section_step : State → List (List ℕ) → Result State ℕ
section_step s words =
    if is_word_at words 0 (codes "lane") then lane_step s words
    else (if is_word_at words 0 (codes "end") then end_step s words
    else (if is_word_at words 0 (codes "t") then submit_step s words
    else command_step s words))

abbrev pub place_step : ScriptPart → State → List (List ℕ) → Result State ℕ
place_step Head s words = head_step s words
place_step Units s words = units_step s words
place_step Boot s words = section_step s words
place_step Lane s words = section_step s words
place_step Finished s words = Err misplaced

-- a line without words, or whose first word begins with `#`
abbrev pub is_skipped : List (List ℕ) → Bool
is_skipped words = length words == 0 || slice_index (word_at words 0) 0 == 35

unfoldable pub words_step : State → List (List ℕ) → Result State ℕ
words_step s words = if is_skipped words then Ok s else place_step s.place s words

-- ---- a line among the lanes of a live update

-- no register is written, and nothing is added to lane 1
abbrev pub may_stand : State → List (List ℕ) → Bool
may_stand s words =
    not (is_word_at words 0 (codes "w"))
    && (nat_lt 0 (length s.lanes) || (is_word_at words 0 (codes "lane") || is_word_at words 0 (codes "end")))

unfoldable pub lanes_words_step : State → List (List ℕ) → Result State ℕ
lanes_words_step s words =
    if is_skipped words then Ok s
    else (if may_stand s words then place_step s.place s words else Err misplaced)

-- ---- either

abbrev pub words_step_of : LinesOf → State → List (List ℕ) → Result State ℕ
words_step_of Script s words = words_step s words
words_step_of Lanes s words = lanes_words_step s words

unfoldable pub line_step : LinesOf → State → List ℕ → Result State ℕ
line_step of s line = if list_all is_plain line then words_step_of of s (words_of line) else Err not_plain

-- ---- before the first line

abbrev pub no_commands : SectionOf
no_commands = record { commands = []; slots = 0 }

abbrev pub start : State
start = record { place = Head; shapes = []; boot = no_commands; lanes = []; section = new_section }
