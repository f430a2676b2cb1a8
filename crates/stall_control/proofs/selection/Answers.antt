use Rattle.std.proofs.Common.{◌+◌, ap, ◌∙◌}
use Rattle.event_words.specs.Registers.{has_pair_bit}
use Rattle.stall_control.proofs.Selects.{selection_bit}
use Rattle.stall_control.proofs.selection.Goals as goal

pub returns : goal.returns
returns c = λ m. selection_bit c.args.regs.now c.args.value c.joined.result m
    (c.joined.ensures.bits (m + 1) ∙ ap (λ high. has_pair_bit c.args.value high (m + 1)) c.word.ensures.value)
