-- A number above 64 bits is out of range.
use Rattle.std.proofs.Common.{ℕ, Option, Result, ap, sym, ◌∙◌}
use Rattle.std.specs.Option.{option_map}
use Rattle.script_reader.specs.Numbers.{fitting, held}
use Rattle.script_reader.proofs.Numerals.{number_is}
use Rattle.script_reader.proofs.number.number.Goals as goal

abbrev fitted : Option (Option ℕ) → Result ℕ ℕ
fitted o = fitting (option_map held o)

pub returns-in-None : goal.returns-in-None
returns-in-None c = number_is c.args.word.now c.number_in.result _ c.number_in.ensures (ap fitted c.in-None.is)

pub returns-in-Some : goal.returns-in-Some
returns-in-Some c = number_is c.args.word.now c.number_in.result _ c.number_in.ensures (ap fitted c.in-Some.is ∙ sym c.in_64_bits.ensures)
