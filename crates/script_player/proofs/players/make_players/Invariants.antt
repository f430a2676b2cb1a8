-- The players so far.
use Rattle.std.proofs.Common.{◌≡◌, ◌++◌, map}
use Rattle.std.specs.List.{AllByRecursion}
use Rattle.std.specs.Vec.Iter.{into_iter_items}
use Rattle.script_player.specs.PlayedSections.{IsPlayer, section_of}
use Rattle.script_player.proofs.players.make_players.Given as goal

abbrev pub invariant-loop-section : goal.invariant-loop-section
invariant-loop-section l = record {
  items : l.yielded ++ into_iter_items l.section-iterator ≡ into_iter_items l.initial.section-iterator;
  sections : map section_of l.players.items ≡ l.yielded;
  made : AllByRecursion (IsPlayer l.shapes l.places l.budget) l.players.items;
}
