-- The number so far and the digits that are left write what all the digits write.
use Rattle.std.proofs.Common.{◌≡◌, ◌<◌, ◌^◌, drop}
use Rattle.script_reader.specs.Numbers.{numeral_after}
use Rattle.script_reader.proofs.number.short_numeral.Given as goal

abbrev pub invariant-loop-byte : goal.invariant-loop-byte
invariant-loop-byte l = (numeral_after l.base l.number (drop l.byte-index l.digits) ≡ numeral_after l.base 0 l.digits) × (l.number < 16 ^ l.byte-index)
