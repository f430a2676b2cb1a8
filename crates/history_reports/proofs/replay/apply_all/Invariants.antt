-- The words that are left give what all of them give.
use Rattle.std.proofs.Common.{◌≡◌, ◌++◌, length, drop}
use Rattle.event_words.specs.Runs.{logged_from, run_from}
use Rattle.unit_core.specs.Fabrics.{state_after_word, reply_to_word}
use Rattle.history_reports.proofs.replay.apply_all.Given as goal

abbrev pub invariant-loop-place : goal.invariant-loop-place
invariant-loop-place l = record {
  next : l.units.next ≡ l.place;
  places : l.units.places ≡ length l.words;
  events : l.events.items ++ logged_from state_after_word reply_to_word l.place l.units.state (drop l.place l.words)
      ≡ logged_from state_after_word reply_to_word 0 l.fn.units.state l.words;
  units : run_from state_after_word l.place l.units.state (drop l.place l.words) ≡ run_from state_after_word 0 l.fn.units.state l.words;
}
