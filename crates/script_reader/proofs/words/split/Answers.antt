-- The bytes before the first line feed are the first line's. Each is a blank, or a word more begins there.
use Rattle.std.proofs.Common.{◌+◌, slice_set, ap, sym, subst, ◌∙◌, arith}
use Rattle.script_reader.specs.Text.{is_blank, first_line}
use Rattle.script_reader.proofs.FirstLine.{line_length, same_byte, feed_ends, byte_within}
use Rattle.script_reader.proofs.Found.{Found, found_all, found_blank, found_past, found_word}
use Rattle.script_reader.proofs.words.split.Goals as goal

pub returns-then-text-at-eq10-clause-line : goal.returns-then-text-at-eq10-clause-line
returns-then-text-at-eq10-clause-line c =
    feed_ends c.args.text.now c.loop-at.at (omega (arith, c.loop-at.invariant.within, line_length c.args.text.now)) c.if-text-at-eq10.true

pub returns-then-text-at-eq10-clause-words : goal.returns-then-text-at-eq10-clause-words
returns-then-text-at-eq10-clause-words c =
    let long = line_length c.args.text.now in
    let ends = feed_ends c.args.text.now c.loop-at.at (omega (arith, c.loop-at.invariant.within, long)) c.if-text-at-eq10.true in
    found_all (first_line c.args.text.now) c.loop-at.starts c.loop-at.ends c.loop-at.count c.loop-at.at (omega (arith, long, ends)) c.loop-at.invariant

pub loop-at-preserved-then-is_blank_byte : goal.loop-at-preserved-then-is_blank_byte
loop-at-preserved-then-is_blank_byte c =
    let text = c.args.text.now in
    let long = line_length text in
    let here = byte_within text c.loop-at.at (omega (arith, c.loop-at.invariant.within, long)) c.loop-at-test.true c.if-text-at-eq10.false in
    found_blank (first_line text) c.loop-at.starts c.loop-at.ends c.loop-at.count c.loop-at.at (omega (arith, here, long)) (ap is_blank (same_byte text c.loop-at.at here) ∙ sym c.is_blank_byte.ensures ∙ c.if-is_blank_byte.true)
    c.loop-at.invariant

pub word_end-end-requires-clause-within : goal.word_end-end-requires-clause-within
word_end-end-requires-clause-within c =
    byte_within c.args.text.now c.loop-at.at (omega (arith, c.loop-at.invariant.within, line_length c.args.text.now)) c.loop-at-test.true c.if-text-at-eq10.false

pub loop-at-preserved : goal.loop-at-preserved
loop-at-preserved c =
    let text = c.args.text.now in
    let line = first_line text in
    let starts = c.keep.new.places in
    let ends = c.keep-else-is_blank_byte.new.places in
    let end = c.word_end-end.result.0 in
    let found : Found line starts ends (c.loop-at.count + 1) end =
    subst (λ s. Found line s ends (c.loop-at.count + 1) end) (sym c.keep.ensures)
    (subst (λ e. Found line (slice_set c.loop-at.starts c.loop-at.count c.loop-at.at) e (c.loop-at.count + 1) end) (sym c.keep-else-is_blank_byte.ensures)
    (found_word line c.loop-at.starts c.loop-at.ends c.loop-at.count c.loop-at.at end c.word_end-end.ensures.word c.loop-at.invariant)) in
    subst (Found line starts ends (c.loop-at.count + 1)) (sym c.word_end-end.ensures.after) (found_past text starts ends (c.loop-at.count + 1) end found)
