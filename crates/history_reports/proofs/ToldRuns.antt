-- A legal history is one run of its script, and its text tells of it.
use Rattle.std.proofs.Common.{◌≡◌, ℕ, ◌∙◌, List, refl, sym}
use Rattle.std.specs.List.{AllByRecursion}
use Rattle.std.proofs.lemmas.List.Elements.{All-from_recursion}
use Rattle.event_words.specs.Valid.{IsValidShape, IsValidEvent}
use Rattle.script_reader.specs.Scripts.{ScriptOf}
use Rattle.unit_core.specs.Histories.{IsLegalHistory, history_of, events_of_words}
use Rattle.history_laws.specs.Laws.{LawKept}
use Rattle.history_laws.specs.OneHistory.{LawOneHistory}
use Rattle.history_laws.specs.EqualReports.{LawReports}
use Rattle.fault_windows.specs.Laws.{LawFaults}
use Rattle.history_reports.specs.declared.runs.WhichReport.{WhichReport}
use Rattle.history_reports.specs.declared.runs.WhichReport.TheVariants.{Plain, WithFaults}
use Rattle.history_reports.specs.ReportedRuns.{IsRun}
use Rattle.history_reports.specs.FaultReports.{IsFaultsText, IsFaultsRun}
use Rattle.history_reports.specs.WantedReports.{report_of, IsTextOf, IsRunOf}
use Rattle.history_reports.proofs.NoCommands.{one_history}
use Rattle.history_reports.proofs.WindowPlaces.{all_valid}

pub is_run : LawKept → LawOneHistory → LawReports → (script : ScriptOf) (history text : List ℕ) → AllByRecursion IsValidShape script.shapes → IsLegalHistory script.shapes script.boot script.lanes history
    → text ≡ report_of script history → IsRun script history text
is_run kept one reports script history text shapes legal printed = record {
  legal = legal;
  laws = kept (history_of script.shapes history) (All-from_recursion IsValidShape script.shapes shapes);
  only = λ none other others. one_history one script.shapes script.boot script.lanes other history none others legal;
  printed = printed;
  told = λ other others same. reports script.shapes script.boot script.lanes other history others.events legal.events (sym same ∙ printed);
}

pub is_faults_run : LawKept → LawOneHistory → LawReports → LawFaults → (script : ScriptOf) (history text : List ℕ) → AllByRecursion IsValidShape script.shapes → IsLegalHistory script.shapes script.boot script.lanes history
    → IsFaultsText script history (report_of script history) text → IsFaultsRun script history text
is_faults_run kept one reports faults script history text shapes legal is = record {
  report = report_of script history;
  run = is_run kept one reports script history (report_of script history) shapes legal refl;
  faults = is;
  late = faults (history_of script.shapes history) (All-from_recursion IsValidShape script.shapes shapes) (All-from_recursion IsValidEvent (events_of_words history) (all_valid history legal.events));
}

pub is_run_of : LawKept → LawOneHistory → LawReports → LawFaults → (which : WhichReport) (script : ScriptOf) (history text : List ℕ) → AllByRecursion IsValidShape script.shapes
    → IsLegalHistory script.shapes script.boot script.lanes history → IsTextOf which script history text → IsRunOf which script history text
is_run_of kept one reports faults Plain script history text shapes legal is = is_run kept one reports script history text shapes legal is
is_run_of kept one reports faults WithFaults script history text shapes legal is = is_faults_run kept one reports faults script history text shapes legal is
