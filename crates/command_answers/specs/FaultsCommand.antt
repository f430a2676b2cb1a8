-- What `faults` answers.
use Rattle.std.specs.Prelude.{◌≡◌, ℕ, List, Ok}
use Rattle.script_reader.specs.Scripts.{ScriptOf}
use Rattle.script_reader.specs.Answers.{reading_of}
use Rattle.history_reports.specs.FaultReports.{IsFaultsRun}

-- The report of one run of the script that the bytes stand for, with the lines of late violations.
pub record IsFaultsReport (bytes history text : List ℕ) : Type 0 where
  pub script : ScriptOf
  pub stands_for : reading_of bytes ≡ Ok script
  pub run : IsFaultsRun script history text
