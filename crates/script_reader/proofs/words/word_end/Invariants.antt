-- No byte after the first so far ends the word.
use Rattle.std.proofs.Common.{◌≡◌, ℕ, ◌-◌, ◌<◌, ◌≤◌, false, length, get_or}
use Rattle.script_reader.specs.Text.{ends_word}
use Rattle.script_reader.proofs.words.word_end.Given as goal

abbrev pub invariant-loop-end : goal.invariant-loop-end
invariant-loop-end l = record {
  forward : l.start < l.end;
  within : l.end ≤ length l.text;
  before : (k : ℕ) → l.start < k → k < l.end → ends_word (get_or l.text k 0) ≡ false;
}

abbrev pub decreases-loop-end : goal.decreases-loop-end
decreases-loop-end l = length l.text - l.end
