-- The cursors so far are those of the boot section and of the lanes so far.
use Rattle.std.proofs.Common.{◌≡◌, ◌+◌, ◌∷◌, length, take}
use Rattle.section_cursor.specs.Fresh.{AreFresh}
use Rattle.section_cursor.proofs.sections.section_cursors.Given as goal

abbrev pub invariant-loop-i : goal.invariant-loop-i
invariant-loop-i l = record {
  fresh : AreFresh 0 l.cursors.items (l.boot ∷ take l.i l.lanes);
  count : length l.cursors.items ≡ l.i + 1;
}
