-- Each number on the way is below 16 to the power of the digits so far.
use Rattle.std.proofs.Common.{arith}
use Rattle.script_reader.proofs.Numerals.{fits_64}
use Rattle.script_reader.proofs.number.short_numeral.Goals as goal

pub overflow_mul-number : goal.overflow_mul-number
overflow_mul-number c =
    let fits = fits_64 c.loop-byte.number c.args.base 0 c.loop-byte.byte-index c.loop-byte.invariant.1 c.requires.high (omega arith) (omega (arith, c.loop-byte-test.true, c.requires.few)) in
    omega (arith, fits)

pub overflow_add-number : goal.overflow_add-number
overflow_add-number c =
    let fits = fits_64 c.loop-byte.number c.args.base c.in_ok-digit.digit c.loop-byte.byte-index c.loop-byte.invariant.1 c.requires.high c.in_ok-digit.ensures.small
    (omega (arith, c.loop-byte-test.true, c.requires.few)) in
    omega (arith, fits)
