-- A number of one digit or of two stands before the first space.
use Rattle.std.proofs.Common.{◌≡◌, Some, sym, ap, ◌∙◌, ◌+◌, get_or, arith}
use Rattle.std.proofs.lemmas.Option.{none-some}
use Rattle.audit_reader.proofs.Fronts.{none_short, is_one, is_two, two_begins, only_one, digit_of, digit_is}
use Rattle.audit_reader.proofs.listing.number_at_front.Goals.{then-text-lt3-via-then-text-lt3, then-text-lt3-via-else-text-lt3+then-text-ne49, then-text-lt3-via-else-text-lt3+else-text-ne49+then-text-ne32, then-text-lt3-via-else-text-lt3+else-text-ne49+else-text-ne32+then-ones-gt6}
use Rattle.audit_reader.proofs.listing.number_at_front.Goals as goal

pub returns-then-text-lt2-clause-some : goal.returns-then-text-lt2-clause-some
returns-then-text-lt2-clause-some c = λ n h b. absurd (none_short n c.args.text.now h b c.if-text-lt2.true)

pub returns-then-text-eq32-clause-some : goal.returns-then-text-eq32-clause-some
returns-then-text-eq32-clause-some c = λ n h b.
    let one = is_one n c.args.text.now h b c.if-text-eq32.true in
    c.digit.ensures.value ∙ digit_of _ n one.small one.ones

pub returns-then-text-eq32-clause-only : goal.returns-then-text-eq32-clause-only
returns-then-text-eq32-clause-only c = only_one c.digit.result c.args.text.now c.digit.ensures.value c.if-text-lt2.false c.if-text-eq32.true

pub returns-in_err-ones-clause-some : goal.returns-in_err-ones-clause-some
returns-in_err-ones-clause-some c = λ n h b.
    let two = is_two n c.args.text.now h b c.if-text-eq32.false in
    absurd (none-some two.0 (sym c.in_err-ones.was ∙ c.digit-2.ensures.value ∙ digit_of _ two.0 (let l = two.2.small in omega (arith, l)) two.2.ones))

pub returns-then-text-lt3-clause-some : goal.returns-then-text-lt3-clause-some
returns-then-text-lt3-clause-some c = λ n h b.
    let two = is_two n c.args.text.now h b c.if-text-eq32.false in
    let ones = digit_is (get_or c.args.text.now 1 0) c.in_ok-ones.ones (sym c.digit-2.ensures.value ∙ c.in_ok-ones.was) in
    absurd (elim c.then-text-lt3.branch [
      | then-text-lt3-via-then-text-lt3 w ↦ (let l = two.2.size in let s = w.if-text-lt3.true in omega (arith, l, s))
      | then-text-lt3-via-else-text-lt3+then-text-ne49 w ↦ w.if-text-ne49.true two.2.tens
      | then-text-lt3-via-else-text-lt3+else-text-ne49+then-text-ne32 w ↦ w.if-text-ne32.true two.2.space
      | then-text-lt3-via-else-text-lt3+else-text-ne49+else-text-ne32+then-ones-gt6 w ↦ (let l = two.2.small in let o = two.2.ones in let s = w.if-ones-gt6.true in omega (arith, l, o, ones.1, s))
    ])

pub returns-clause-some : goal.returns-clause-some
returns-clause-some c = λ n h b.
    let two = is_two n c.args.text.now h b c.if-text-eq32.false in
    let ones = digit_is (get_or c.args.text.now 1 0) c.in_ok-ones.ones (sym c.digit-2.ensures.value ∙ c.in_ok-ones.was) in
    let same : c.in_ok-ones.ones ≡ two.0 = (let o = two.2.ones in omega (arith, o, ones.1)) in
    ap (λ m. Some (10 + m)) same ∙ ap Some (sym two.1)

pub returns-clause-only : goal.returns-clause-only
returns-clause-only c =
    let ones = digit_is (get_or c.args.text.now 1 0) c.in_ok-ones.ones (sym c.digit-2.ensures.value ∙ c.in_ok-ones.was) in
    let l = c.if-ones-gt6.false in (
      omega (arith, l),
      two_begins c.in_ok-ones.ones c.args.text.now
          (record { small = omega (arith, l); size = c.if-text-lt3.false; tens = c.if-text-ne49.false; ones = ones.1; space = c.if-text-ne32.false }),
    )
