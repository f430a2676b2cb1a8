-- The number so far and the digits that are left write what all the digits write.
use Rattle.std.proofs.Common.{◌≡◌, ◌≤◌, ◌^◌, drop}
use Rattle.std.specs.Option.{option_map}
use Rattle.script_reader.specs.Numbers.{numeral_after, held}
use Rattle.script_reader.proofs.Numerals.{capped}
use Rattle.script_reader.proofs.number.long_numeral.Given as goal

abbrev pub invariant-loop-byte : goal.invariant-loop-byte
invariant-loop-byte l = (option_map capped (numeral_after l.base (held l.number) (drop l.byte-index l.digits)) ≡ option_map capped (numeral_after l.base 0 l.digits)) × (held l.number ≤ 2 ^ 64)
