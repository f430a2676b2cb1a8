-- The number so far and the bytes that are left begin with the number that all bytes begin with.
use Rattle.std.proofs.Common.{◌≡◌, ◌≤◌, drop}
use Rattle.audit_reader.specs.Digits.{leading}
use Rattle.audit_reader.proofs.listing.number_up_to.Given as goal

abbrev pub invariant-loop-i : goal.invariant-loop-i
invariant-loop-i l = record {
  few : l.number ≤ l.most;
  number : leading l.number (drop l.i l.text) ≡ leading 0 l.text;
}
