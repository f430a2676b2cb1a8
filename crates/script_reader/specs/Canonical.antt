-- Which scripts the reader gives for their own canonical text, and where the text of a lane stands in it.
use Rattle.std.specs.Prelude.{◌≡◌, ℕ, ◌+◌, ◌≤◌, List, [], ◌∷◌, ◌++◌, Ok, length, codes}
use Rattle.std.specs.List.{AllByRecursion}
use Rattle.event_words.specs.Sections.{SectionOf}
use Rattle.script_reader.specs.Told.{TellsWhole}
use Rattle.script_reader.specs.Scripts.{ScriptOf, IsWellFormedScript, need_of}
use Rattle.script_reader.specs.Answers.{most_needed, reading_of}
use Rattle.script_reader.specs.Printed.{unit_texts, command_texts, lane_texts}

-- the text tells all of each command
pub record IsToldWholly (script : ScriptOf) : Type 0 where
  pub boot : TellsWhole script.boot
  pub lanes : AllByRecursion TellsWhole script.lanes

-- A well-formed script whose run needs few enough events, and of which the text tells all.
pub record IsReadableScript (script : ScriptOf) : Type 0 where
  pub formed : IsWellFormedScript script
  pub few : need_of script ≤ most_needed
  pub whole : IsToldWholly script

-- ---- one lane

-- with one lane more, the last
abbrev pub with_lane : ScriptOf → SectionOf → ScriptOf
with_lane script lane = record script { lanes = script.lanes ++ lane ∷ [] }

-- the canonical text without its last line
abbrev pub text_before_end : ScriptOf → List ℕ
text_before_end script = codes "iopmp 1\n" ++ (unit_texts script.shapes ++ (codes "boot\n" ++ (command_texts script.boot.commands ++ lane_texts 1 script.lanes)))

-- A text before a script's last line adds a lane of this number.
abbrev pub AddsLane : ℕ → SectionOf → List ℕ → Type 0
AddsLane number lane text = (script : ScriptOf) → number ≡ length script.lanes + 1 → IsReadableScript (with_lane script lane) → reading_of (text_before_end script ++ (text ++ codes "end\n")) ≡ Ok (with_lane script lane)
