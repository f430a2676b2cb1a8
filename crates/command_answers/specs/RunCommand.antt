-- What `run` answers.
use Rattle.std.specs.Prelude.{◌≡◌, ℕ, List, Some, Ok, Err}
use Rattle.script_reader.specs.declared.script.ScriptError.{ScriptError}
use Rattle.script_reader.specs.Scripts.{ScriptOf}
use Rattle.script_reader.specs.Answers.{reading_of}
use Rattle.history_reports.specs.ReportedRuns.{IsRun}
use Rattle.command_answers.specs.ScriptLines.{refusal_line}

-- The report of a history of the script that the bytes stand for.
pub record IsReport (bytes history text : List ℕ) : Type 0 where
  pub script : ScriptOf
  pub stands_for : reading_of bytes ≡ Ok script
  pub run : IsRun script history text

-- The line of bytes that stand for no script, or for one that needs too many events.
pub record IsRefusal (bytes line : List ℕ) : Type 0 where
  pub error : ScriptError
  pub refused : reading_of bytes ≡ Err error
  pub named : refusal_line error ≡ Some line

-- The bytes are those of a script that can be run.
abbrev pub StandsForScript : List ℕ → Type 0
StandsForScript bytes = (script : ScriptOf) × (reading_of bytes ≡ Ok script)
