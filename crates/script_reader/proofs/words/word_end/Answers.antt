-- The word goes up to the first byte that ends it, or to the end.
use Rattle.std.proofs.Common.{ap, sym, ◌∙◌, length, arith}
use Rattle.script_reader.specs.Text.{ends_word}
use Rattle.script_reader.proofs.FirstLine.{line_within, first_word}
use Rattle.script_reader.proofs.words.word_end.Goals as goal

pub overflow_add-end : goal.overflow_add-end
overflow_add-end c = omega (arith, c.requires.within, line_within c.args.text.now)

pub loop-end-init : goal.loop-end-init
loop-end-init c = record {
  forward = omega arith;
  within = omega (arith, c.requires.within, line_within c.args.text.now);
  before = λ k h l. absurd (omega (arith, h, l));
}

pub returns-then-byte-eq32-clause-word : goal.returns-then-byte-eq32-clause-word
returns-then-byte-eq32-clause-word c =
    let so_far = c.loop-end.invariant in
    first_word c.args.text.now c.args.start c.loop-end.end c.requires.within c.requires.begins so_far.forward so_far.within so_far.before (λ _. ap ends_word c.if-byte-eq32.true)

pub returns-then-ends_word-clause-word : goal.returns-then-ends_word-clause-word
returns-then-ends_word-clause-word c =
    let so_far = c.loop-end.invariant in
    first_word c.args.text.now c.args.start c.loop-end.end c.requires.within c.requires.begins so_far.forward so_far.within so_far.before (λ _. sym c.ends_word.ensures ∙ c.if-ends_word.true)

pub returns-clause-word : goal.returns-clause-word
returns-clause-word c =
    let so_far = c.loop-end.invariant in
    let text = c.args.text.now in
    first_word text c.args.start (length text) c.requires.within c.requires.begins (omega (arith, c.requires.within, line_within text)) (omega arith) (λ k h l. so_far.before k h (omega (arith, l, c.loop-end-test.false))) (λ h. absurd (omega (arith, h)))
