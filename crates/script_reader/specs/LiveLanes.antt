-- The lanes of a live update that bytes stand for, or their first bad line and its code.
--
-- They are written as a script's lanes are, from number 2 on, and end with `end`. Lane 1 is the plan, which alone
-- writes registers. There is one unit.
use Rattle.std.specs.Prelude.{ℕ, ◌+◌, false, List, [], ◌∷◌, length, drop, None, Ok, Err, Vec, ◌≡◌, ◌≤◌}
use Rattle.std.specs.Vec.{vec_items}
use Rattle.std.specs.declared.alloc.Global.{Global}
use Rattle.std.specs.declared.result.Result.{Result}
use Rattle.std.specs.List.{AllByRecursion}
use Rattle.event_words.specs.declared.shape.Shape.{Shape}
use Rattle.event_words.specs.Sections.{SectionOf, IsValidSection, NamesOnlyUnits, IsNoRegisterWrite, HasNoRegisterWrites}
use Rattle.script_reader.specs.declared.reader.ScriptPart.{ScriptPart}
use Rattle.script_reader.specs.declared.reader.LinesOf.TheVariants.{Lanes}
use Rattle.script_reader.specs.declared.reader.ScriptPart.TheVariants.{Lane, Finished}
use Rattle.script_reader.specs.Codes.{misplaced}
use Rattle.script_reader.specs.Text.{lines_of}
use Rattle.script_reader.specs.Lines.{State, new_section, no_commands, line_step}
use Rattle.script_reader.specs.Scripts.{Bad, at_line}
use Rattle.script_reader.specs.declared.script.ScriptError.{ScriptError}
use Rattle.script_reader.specs.Answers.{Reads}

-- the smallest unit: only that there is one counts
abbrev pub one_unit : Shape
one_unit = record { rrids = 1; domains = 1; entries = 1; mdcfg = 0; k = 0; srcmd = 0; sps = false; queue = 1; transl = None }

-- before the first line lane 1 stands open, without commands
abbrev pub lanes_start : State
lanes_start = record { place = Lane; shapes = one_unit ∷ []; boot = no_commands; lanes = []; section = new_section }

-- the lanes after lane 1, where `end` stood; `n` is the number of the last line plus 1
abbrev pub lanes_end : ScriptPart → State → ℕ → Result (List SectionOf) Bad
lanes_end Finished s n = Ok (drop 1 s.lanes)
lanes_end _ s n = Err (record { line = n; code = misplaced })

-- the lines from number n on
abbrev pub lanes_from : State → ℕ → List (List ℕ) → Result (List SectionOf) Bad
lanes_from s n [] = lanes_end s.place s n
lanes_from s n (line ∷ lines) = at_line n (line_step Lanes s line) (λ t. lanes_from t (n + 1) lines)

-- The lanes of bytes whose first line has this number.
abbrev pub lanes_at : ℕ → List ℕ → Result (List SectionOf) Bad
lanes_at first_line bytes = lanes_from lanes_start first_line (lines_of bytes)

-- what the lines give is this, unless memory runs out
abbrev pub ReadsLanes : Result (Vec SectionOf Global) ScriptError → Result (List SectionOf) Bad → Type 0
ReadsLanes (Ok lanes) read = read ≡ Ok (vec_items lanes)
ReadsLanes (Err error) read = Reads (Err error) read

-- ---- what every such lane has

-- lanes are being read, or `end` stood
abbrev pub IsOpen : ScriptPart → Type 0
IsOpen Lane = Unit {0}
IsOpen Finished = Unit {0}
IsOpen _ = ⊥

-- What holds of the state after any lines.
pub record IsLiveState (s : State) : Type 0 where
  pub place : IsOpen s.place
  pub shapes : length s.shapes ≡ 1
  pub lanes : AllByRecursion HasNoRegisterWrites s.lanes
  pub section : AllByRecursion IsNoRegisterWrite s.section.commands

-- Valid sections that name unit 0 alone and write no register.
pub record AreLiveLanes (lanes : List SectionOf) : Type 0 where
  pub few : length lanes ≤ 15
  pub valid : AllByRecursion IsValidSection lanes
  pub units_there : AllByRecursion (NamesOnlyUnits 1) lanes
  pub write_nothing : AllByRecursion HasNoRegisterWrites lanes
