-- The replies so far and those to the words that are left are all.
use Rattle.std.proofs.Common.{◌≡◌, ◌++◌, length, drop}
use Rattle.event_words.specs.Runs.{run_from}
use Rattle.unit_core.specs.Fabrics.{state_after_word}
use Rattle.script_player.specs.ToldHistories.{replies_from}
use Rattle.script_player.proofs.told.replies_to.Given as goal

abbrev pub invariant-loop-place : goal.invariant-loop-place
invariant-loop-place l = record {
  next : l.units.next ≡ l.place;
  places : l.units.places ≡ length l.words;
  replies : l.replies.items ++ replies_from l.place l.units.state (drop l.place l.words) ≡ replies_from 0 l.initial.units.state l.words;
  units : run_from state_after_word l.place l.units.state (drop l.place l.words) ≡ run_from state_after_word 0 l.initial.units.state l.words;
}
