-- The copies so far.
use Rattle.std.proofs.Common.{◌≡◌, take}
use Rattle.script_player.proofs.players.copy_sections.Given as goal

abbrev pub invariant-loop-section : goal.invariant-loop-section
invariant-loop-section l = l.copies.items ≡ take l.section-index l.sections
