-- The callers of the lanes so far, and what they kept.
use Rattle.std.proofs.Common.{◌≡◌, ◌++◌, map}
use Rattle.std.specs.Vec.Iter.{into_iter_items}
use Rattle.script_player.specs.PlayedSections.{port_of}
use Rattle.script_player.specs.KeptReplies.{AreKept}
use Rattle.script_player.proofs.playing.into_callers.Given as goal

abbrev pub invariant-loop-lane : goal.invariant-loop-lane
invariant-loop-lane l = record {
  items : l.yielded ++ into_iter_items l.lane-iterator ≡ into_iter_items l.initial.lane-iterator;
  callers : l.rest.items ≡ map port_of l.yielded;
  kept : AreKept l.rest.items l.kept.items;
}
