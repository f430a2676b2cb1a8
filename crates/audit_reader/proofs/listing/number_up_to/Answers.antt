-- Each digit goes from those that are left to the number so far.
use Rattle.std.proofs.Common.{◌≡◌, ℕ, ◌+◌, ◌*◌, Option, None, Some, drop, get_or, sym, ap, ◌∙◌, arith}
use Rattle.audit_reader.specs.Digits.{digit_at, with_digit, leading, up_to}
use Rattle.audit_reader.proofs.Leading.{grows, more, at_end, up_to_some, up_to_none}
use Rattle.audit_reader.proofs.listing.number_up_to.Goals as goal

pub returns-in_default : goal.returns-in_default
returns-in_default c =
    let i = c.loop-i.i in
    let text = c.args.text.now in
    let number = c.loop-i.number in
    let none : digit_at (get_or text i 0) ≡ None = sym c.digit.ensures.value ∙ c.in_default.is in
    let here = more number i text c.loop-i-test.true ∙ ap (λ (o : Option ℕ). with_digit o number (λ m. leading m (drop (i + 1) text))) none in
    sym (up_to_some c.args.most number c.loop-i.invariant.few) ∙ ap (up_to c.args.most) (sym here ∙ c.loop-i.invariant.number)

pub returns-then-most-number : goal.returns-then-most-number
returns-then-most-number c =
    let i = c.loop-i.i in
    let text = c.args.text.now in
    let number = c.loop-i.number in
    let d = c.in-Some.digit in
    let some : digit_at (get_or text i 0) ≡ Some d = sym c.digit.ensures.value ∙ c.in-Some.is in
    let here = more number i text c.loop-i-test.true ∙ ap (λ (o : Option ℕ). with_digit o number (λ m. leading m (drop (i + 1) text))) some in
    let same : leading (number * 10 + d) (drop (i + 1) text) ≡ leading 0 text = sym here ∙ c.loop-i.invariant.number in
    sym (up_to_none c.args.most (leading 0 text) (omega (arith, same, c.if-most-number.true, grows (number * 10 + d) (drop (i + 1) text))))

pub loop-i-preserved : goal.loop-i-preserved
loop-i-preserved c =
    let i = c.loop-i.i in
    let text = c.args.text.now in
    let number = c.loop-i.number in
    let some : digit_at (get_or text i 0) ≡ Some c.in-Some.digit = sym c.digit.ensures.value ∙ c.in-Some.is in
    let here = more number i text c.loop-i-test.true ∙ ap (λ (o : Option ℕ). with_digit o number (λ m. leading m (drop (i + 1) text))) some in
    record {
      few = c.if-most-number.false;
      number = sym here ∙ c.loop-i.invariant.number;
    }

pub returns : goal.returns
returns c =
    let number = c.loop-i.number in
    sym (up_to_some c.args.most number c.loop-i.invariant.few)
    ∙ ap (up_to c.args.most) (sym (at_end number c.loop-i.i c.args.text.now c.loop-i-test.false) ∙ c.loop-i.invariant.number)
