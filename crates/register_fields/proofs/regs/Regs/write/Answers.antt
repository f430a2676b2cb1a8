use Rattle.std.proofs.Common.{◌≡◌, ◌<◌, length, Some, arith, refl, sym, ◌∙◌}
use Rattle.std.proofs.lemmas.List.{get_or_read}
use Rattle.event_words.specs.Registers.{Registers, word_at, merged, ruled_word, fields_of}
use Rattle.event_words.proofs.WellFormedLemmas.{write_at_well}
use Rattle.register_fields.proofs.regs.Regs.write.Goals as goal

pub invariant_of-self : goal.invariant_of-self
invariant_of-self c =
    let r : Registers = record { shape = c.self.inside.shape; words = c.self.inside.words.items } in
    let q = c.in-Some.register in
    let below : c.args.index < length r.words = omega (arith, c.self.invariant.len, c.in-Some.ensures.inside) in
    let old = get_or_read r.words c.args.index c.index-old.result.now below c.index-old.ensures 0 in
    let e : c.merged.result ≡ merged c.args.keep_mask (word_at r c.args.index) (ruled_word (fields_of r.shape q) (word_at r c.args.index) c.args.value) = rw (c.merged.ensures, c.sum_of_register-new.ensures, ← old) refl in
    rw e (write_at_well r c.args.index c.args.value c.args.keep_mask (Some q) (sym c.in-Some.is ∙ c.register_at.ensures.value) c.self.invariant)
