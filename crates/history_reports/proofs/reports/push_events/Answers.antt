use Rattle.std.proofs.Common.{◌++◌, ◌∷◌, flat_map, ap, ◌∙◌}
use Rattle.event_words.specs.ReportLines.{event_line}
use Rattle.history_reports.specs.SectionEnds.{cursor_ends, end_lines}
use Rattle.script_player.specs.ToldHistories.{logged_with}
use Rattle.history_reports.proofs.SectionCursors.{ends_of_fresh, lines_of_ends}
use Rattle.history_reports.proofs.reports.push_events.Goals as goal

pub returns : goal.returns
returns c =
    let events = logged_with 0 c.args.words.now c.args.replies.now in
    let lines = ap (λ cs. end_lines 0 (cursor_ends 0 cs events)) c.as_mut_slice.ensures.value
    ∙ ap (λ es. end_lines 0 es) (ends_of_fresh c.in_ok-cursors.cursors.items (c.args.boot.now ∷ c.args.lanes.now) 0 events c.in_ok-cursors.ensures.fresh)
    ∙ lines_of_ends (c.args.boot.now ∷ c.args.lanes.now) 0 events in
    c.in_ok-push_noted.ensures ∙ ap (λ t. c.args.out.now.items ++ (flat_map event_line events ++ t)) lines
