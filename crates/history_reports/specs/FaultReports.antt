-- One run of a script, and its report with what the windows of later violations show.
use Rattle.std.specs.Prelude.{◌≡◌, ℕ, List, ◌++◌, codes}
use Rattle.script_reader.specs.Scripts.{ScriptOf}
use Rattle.unit_core.specs.Histories.{history_of}
use Rattle.fault_windows.specs.Laws.{KeepsLateViolations}
use Rattle.history_reports.specs.ReportedRuns.{IsRun}
use Rattle.history_reports.specs.WindowLines.{windows_text}

-- A report without its last line, and after it what the readings of its history show and leave.
pub record IsFaultsText (script : ScriptOf) (history report text : List ℕ) : Type 0 where
  pub body : List ℕ
  pub without_end : report ≡ body ++ codes "end\n"
  pub printed : text ≡ body ++ windows_text script.shapes history

-- The report of one run of the script, and the lines of the late violations of that same history: one of the
-- next four readings after a late violation shows it, and none is shown that did not come.
pub record IsFaultsRun (script : ScriptOf) (history text : List ℕ) : Type 0 where
  pub report : List ℕ
  pub run : IsRun script history report
  pub faults : IsFaultsText script history report text
  pub late : KeepsLateViolations (history_of script.shapes history)
