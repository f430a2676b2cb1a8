-- The replies to the words so far, and how many of them each caller gave.
use Rattle.std.proofs.Common.{◌≡◌, ◌<◌, ◌≤◌, ℕ, length, take, get_or, vec_len}
use Rattle.std.specs.Prelude.{vec_capacity}
use Rattle.script_player.specs.MergedReplies.{replies_by, list_of}
use Rattle.script_player.proofs.merged.merged.Given as goal

abbrev pub invariant-loop-word : goal.invariant-loop-word
invariant-loop-word l = record {
  count : length l.replies.items ≡ l.word-index;
  len : vec_len l.replies ≡ l.word-index;
  room : vec_capacity l.replies ≡ length l.words;
  callers : length l.next ≡ 32;
  within : (c : ℕ) → c < 32 → get_or l.next c 0 ≤ l.word-index;
  each : (c : ℕ) → c < 32 → replies_by c (take l.word-index l.words) l.replies.items ≡ take (get_or l.next c 0) (list_of l.kept c);
}
