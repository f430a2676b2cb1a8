use Rattle.std.proofs.Common.{◌≡◌, map, length}
use Rattle.std.specs.List.{range_with_len}
use Rattle.event_words.specs.Registers.{reset_word}
use Rattle.register_fields.proofs.regs.reset_words.Given as goal

abbrev pub invariant-loop-index : goal.invariant-loop-index
invariant-loop-index l =
    (l.words.items ≡ map (reset_word l.shape) (range_with_len 0 l.index)) × (length l.words.items ≡ l.index)
