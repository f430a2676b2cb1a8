-- The history is legal, and the text is the report that is wanted of it.
use Rattle.history_reports.proofs.ToldRuns.{is_run_of}
use Rattle.history_reports.proofs.runs.run_report.Goals as goal

pub returns : goal.returns
returns c =
    is_run_of c.law_kept.ensures c.law_one_history.ensures c.law_reports.ensures c.law_faults.ensures c.args.which c.args.script.now c.args.words.now c.in_ok-text.text.items
    c.requires.formed.shapes c.requires.legal c.in_ok-text.ensures
