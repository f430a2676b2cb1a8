-- What is written and noted, and the words and the replies that are left, give what all give.
use Rattle.std.proofs.Common.{◌≡◌, ◌++◌, length, drop, flat_map}
use Rattle.event_words.specs.ReportLines.{event_line}
use Rattle.history_reports.specs.SectionEnds.{cursor_ends}
use Rattle.script_player.specs.ToldHistories.{logged_with}
use Rattle.history_reports.proofs.reports.push_history.Given as goal

abbrev pub invariant-loop-place : goal.invariant-loop-place
invariant-loop-place l = record {
  text : l.out.items ++ flat_map event_line (logged_with l.place (drop l.place l.words) (drop l.place l.replies)) ≡ l.initial.out.items ++ flat_map event_line (logged_with 0 l.words l.replies);
  ends : cursor_ends 0 l.cursors (logged_with l.place (drop l.place l.words) (drop l.place l.replies)) ≡ cursor_ends 0 l.initial.cursors (logged_with 0 l.words l.replies);
  count : length l.cursors ≡ length l.initial.cursors;
}
