-- Each digit goes from those that are left to the number so far.
use Rattle.std.proofs.Common.{◌∙◌, sym, ap, arith}
use Rattle.std.specs.Option.{option_map}
use Rattle.script_reader.specs.Numbers.{held}
use Rattle.script_reader.proofs.Numerals.{capped_step, capped_stop, capped_end}
use Rattle.script_reader.proofs.number.long_numeral.Goals as goal

pub loop-byte-preserved : goal.loop-byte-preserved
loop-byte-preserved c = (
  sym (capped_step c.args.base (held c.loop-byte.number) (held c.with_digit-number.result) c.args.digits.now c.loop-byte.byte-index c.in_ok-digit.digit (omega arith) c.requires.low (sym c.in_ok-digit.ensures.value) c.with_digit-number.ensures)
      ∙ c.loop-byte.invariant.0,
  omega (arith, c.with_digit-number.ensures),
)

pub returns-in_err-digit : goal.returns-in_err-digit
returns-in_err-digit c =
    ap (option_map held) c.from_residual.ensures
    ∙ sym (capped_stop c.args.base (held c.loop-byte.number) c.args.digits.now c.loop-byte.byte-index (omega arith) (sym c.digit.ensures.value ∙ c.in_err-digit.was))
    ∙ c.loop-byte.invariant.0

pub returns : goal.returns
returns c =
    sym (capped_end c.args.base (held c.loop-byte.number) c.args.digits.now c.loop-byte.byte-index (omega arith) c.loop-byte.invariant.1) ∙ c.loop-byte.invariant.0
