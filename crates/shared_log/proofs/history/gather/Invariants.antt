-- The words so far and those that are left are the words before the first 0.
use Rattle.std.proofs.Common.{◌≡◌, ◌++◌, vec_len, take, drop}
use Rattle.std.specs.Mem.Slots.{slots_items}
use Rattle.shared_log.specs.Words.{words_before_zero}
use Rattle.shared_log.proofs.history.gather.Given as goal

abbrev pub invariant-loop-n : goal.invariant-loop-n
invariant-loop-n l = record {
  same : vec_len l.room ≡ vec_len l.fn.room;
  so_far : take l.n l.room.items ++ words_before_zero (drop l.n (slots_items l.closed.words)) ≡ words_before_zero (slots_items l.closed.words);
}
