-- Either report, as it is wanted.
use Rattle.std.specs.Prelude.{◌≡◌, ℕ, List}
use Rattle.script_reader.specs.Scripts.{ScriptOf}
use Rattle.unit_core.specs.Reports.{report_text}
use Rattle.history_reports.specs.declared.runs.WhichReport.{WhichReport}
use Rattle.history_reports.specs.declared.runs.WhichReport.TheVariants.{Plain, WithFaults}
use Rattle.history_reports.specs.ReportedRuns.{IsRun}
use Rattle.history_reports.specs.FaultReports.{IsFaultsText, IsFaultsRun}

abbrev pub report_of : ScriptOf → List ℕ → List ℕ
report_of script history = report_text script.shapes script.boot script.lanes history

-- the text that is wanted of a history
abbrev pub IsTextOf : WhichReport → ScriptOf → List ℕ → List ℕ → Type 0
IsTextOf Plain script history text = text ≡ report_of script history
IsTextOf WithFaults script history text = IsFaultsText script history (report_of script history) text

-- and of a run
abbrev pub IsRunOf : WhichReport → ScriptOf → List ℕ → List ℕ → Type 0
IsRunOf Plain = IsRun
IsRunOf WithFaults = IsFaultsRun
