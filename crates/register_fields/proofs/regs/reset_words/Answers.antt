use Rattle.std.proofs.Common.{arith}
use Rattle.std.proofs.lemmas.Grind.{common_steps}
use Rattle.std.proofs.lemmas.List.FromFn.{map-range_with_len_more}
use Rattle.event_words.specs.Registers.{reset_word}
use Rattle.register_fields.proofs.regs.reset_words.Goals as goal

pub loop-index-preserved : goal.loop-index-preserved
loop-index-preserved c =
    let i = c.loop-index.index in
    let more = map-range_with_len_more (reset_word c.args.shape.now) 0 i i (omega arith) in
    (grind (arith, common_steps), grind (arith, common_steps))
