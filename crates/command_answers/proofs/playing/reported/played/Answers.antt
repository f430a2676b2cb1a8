-- The history is legal, and the text is the report that is wanted of it.
use Rattle.std.proofs.Common.{sym, subst}
use Rattle.unit_core.specs.Histories.{IsLegalHistory}
use Rattle.script_player.specs.ToldHistories.{IsToldOf}
use Rattle.history_reports.specs.WantedReports.{IsRunOf}
use Rattle.command_answers.proofs.CommandAnswers.{told}
use Rattle.command_answers.proofs.playing.reported.played.Goals as goal

pub run_report-requires-clause-legal : goal.run_report-requires-clause-legal
run_report-requires-clause-legal g c =
    let script = c.args.script.now in
    subst (λ ws. IsLegalHistory script.shapes script.boot script.lanes ws) (sym c.words.ensures) c.in_ok-history.ensures.legal

pub run_report-requires-clause-told : goal.run_report-requires-clause-told
run_report-requires-clause-told g c = subst (λ ws. IsToldOf c.in_ok-history.field-0.told c.args.script.now.shapes ws) (sym c.words.ensures) c.in_ok-history.ensures.told

pub returns : goal.returns
returns g c =
    let script = c.args.script.now in
    let text = c.in_ok-text.text in
    told (IsRunOf c.args.which script) c.report_answer.result c.in_ok-history.field-0.history text c.report_answer.ensures
    (subst (λ ws. IsRunOf c.args.which script ws text.items) c.words.ensures c.in_ok-text.ensures)
