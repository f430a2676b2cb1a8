use Rattle.event_words.proofs.WellFormedLemmas.{IsWellFormed-at_reset}
use Rattle.register_fields.proofs.regs.Regs.new.Goals as goal

pub invariant_of-result : goal.invariant_of-result
invariant_of-result c =
    rw c.in-Ok.ensures.words (IsWellFormed-at_reset c.args.shape c.requires)
