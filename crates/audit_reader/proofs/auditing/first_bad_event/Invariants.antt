-- The lines so far are those of some words, and the units and the cursors are those after them.
use Rattle.std.proofs.Common.{◌≡◌, ◌≤◌, ℕ, List, [], length}
use Rattle.script_reader.specs.Scripts.{ScriptOf}
use Rattle.audit_reader.specs.Following.{AreRead}
use Rattle.audit_reader.proofs.auditing.first_bad_event.Given as goal

abbrev pub invariant-loop-place : goal.invariant-loop-place
invariant-loop-place l = record {
  next : l.units.next ≡ l.place;
  room : l.count ≤ l.units.places;
  most : l.units.places ≤ 1048576;
  few : length l.cursors ≡ length l.initial.cursors;
  read : (script : ScriptOf) (bytes : List ℕ) → AreRead script bytes l.count [] l.initial.units.state l.initial.cursors l.initial.unread
      → (words : List ℕ) × (length words ≡ l.place) × AreRead script bytes l.count words l.units.state l.cursors l.unread;
}
