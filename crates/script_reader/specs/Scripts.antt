-- The script that bytes stand for, or the first bad line and its code.
use Rattle.std.specs.Prelude.{ℕ, ◌+◌, ◌*◌, ◌≤◌, max, List, [], ◌∷◌, length, Ok, Err}
use Rattle.std.specs.declared.result.Result.{Result}
use Rattle.std.specs.List.{AllByRecursion}
use Rattle.event_words.specs.declared.shape.Shape.{Shape}
use Rattle.event_words.specs.Valid.{IsValidShape}
use Rattle.event_words.specs.Sections.{SectionOf, IsValidSection, NamesOnlyUnits, most_section_events}
use Rattle.script_reader.specs.declared.reader.ScriptPart.{ScriptPart}
use Rattle.script_reader.specs.declared.reader.ScriptPart.TheVariants.{Head, Finished}
use Rattle.script_reader.specs.Codes.{no_head, misplaced}
use Rattle.script_reader.specs.Text.{lines_of}
use Rattle.script_reader.specs.declared.reader.LinesOf.TheVariants.{Script}
use Rattle.script_reader.specs.Lines.{State, start, line_step}

-- What contracts see of a script.
pub record ScriptOf : Type 0 where
  pub shapes : List Shape
  pub boot : SectionOf
  pub lanes : List SectionOf

-- where a line is bad, from line 1 on, and its code
pub record Bad : Type 0 where
  pub line : ℕ
  pub code : ℕ

-- the end of the lines, where `n` is the number of lines plus 1
abbrev pub end_of : ScriptPart → State → ℕ → Result ScriptOf Bad
end_of Head s n = Err (record { line = n; code = no_head })
end_of Finished s n = Ok (record { shapes = s.shapes; boot = s.boot; lanes = s.lanes })
end_of _ s n = Err (record { line = n; code = misplaced })

abbrev pub at_line : {A B : Type 0} → ℕ → Result A ℕ → (A → Result B Bad) → Result B Bad
at_line n (Ok s) next = next s
at_line n (Err code) next = Err (record { line = n; code = code })

-- the lines from number n on
abbrev pub lines_from : State → ℕ → List (List ℕ) → Result ScriptOf Bad
lines_from s n [] = end_of s.place s n
lines_from s n (line ∷ lines) = at_line n (line_step Script s line) (λ t. lines_from t (n + 1) lines)

-- the script that bytes stand for, or the first bad line
abbrev pub script_at : List ℕ → Result ScriptOf Bad
script_at bytes = lines_from start 1 (lines_of bytes)

-- ---- the number of events

-- the most events of a section, at least `n`
abbrev pub most_from : ℕ → List SectionOf → ℕ
most_from n [] = n
most_from n (section ∷ sections) = most_from (max n (most_section_events section)) sections

-- The section makes at most so many events.
abbrev pub HasAtMost : ℕ → SectionOf → Type 0
HasAtMost most section = most_section_events section ≤ most

-- The most events of one section, at least 1, for the boot section and for each lane.
abbrev pub need_of : ScriptOf → ℕ
need_of script = (length script.lanes + 1) * most_from (max 1 (most_section_events script.boot)) script.lanes

-- ---- what every script has

-- One to four units, at most 16 lanes, and valid sections that name only units that are there.
pub record IsWellFormedScript (script : ScriptOf) : Type 0 where
  pub some_units : 1 ≤ length script.shapes
  pub few_units : length script.shapes ≤ 4
  pub shapes : AllByRecursion IsValidShape script.shapes
  pub few_lanes : length script.lanes ≤ 16
  pub boot : IsValidSection script.boot
  pub boot_units : NamesOnlyUnits (length script.shapes) script.boot
  pub lanes : AllByRecursion IsValidSection script.lanes
  pub lanes_units : AllByRecursion (NamesOnlyUnits (length script.shapes)) script.lanes
