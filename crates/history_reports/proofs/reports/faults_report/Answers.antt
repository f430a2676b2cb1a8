-- The replayed events are valid.
use Rattle.std.proofs.Common.{sym, subst, ◌∙◌}
use Rattle.std.specs.List.{AllByRecursion}
use Rattle.unit_core.specs.Units.{fabric_at_reset}
use Rattle.unit_core.specs.Fabrics.{state_after_word, reply_to_word}
use Rattle.history_reports.specs.Requesters.{HasValidEvent}
use Rattle.history_reports.proofs.WindowPlaces.{all_logged}
use Rattle.history_reports.proofs.reports.faults_report.Goals as goal

pub push_windows-requires-clause-valid : goal.push_windows-requires-clause-valid
push_windows-requires-clause-valid c =
    subst (AllByRecursion HasValidEvent) (sym (c.deref-2.ensures.value ∙ c.in_ok-replay.ensures.events))
    (all_logged state_after_word reply_to_word 0 (fabric_at_reset c.deref.result.now) c.args.words.now c.requires.words)
