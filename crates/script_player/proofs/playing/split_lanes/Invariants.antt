-- A lane for each player so far.
use Rattle.std.proofs.Common.{◌≡◌, ◌+◌, ◌≤◌, ◌++◌, length, map}
use Rattle.std.specs.Vec.Iter.{into_iter_items, into_iter_len}
use Rattle.shared_log.specs.Words.{words_by}
use Rattle.checker_workers.specs.Ports.{PortView}
use Rattle.script_player.specs.PlayedSections.{section_of, AreReadyLanes}
use Rattle.script_player.proofs.playing.split_lanes.Given as goal

abbrev pub invariant-loop-player : goal.invariant-loop-player
invariant-loop-player l = record {
  items : l.yielded ++ into_iter_items l.player-iterator ≡ into_iter_items l.initial.player-iterator;
  len : into_iter_len l.player-iterator ≡ length (into_iter_items l.player-iterator);
  first : (let q : PortView = record l.fn.first { made = length l.yielded + 1 } in l.first ≡ q);
  alone : l.fn.first.made ≡ 1 → 1 ≤ length l.yielded → words_by 0 l.fn.first.log ≡ l.fn.first.log;
  lanes : AreReadyLanes l.shared l.fn.first.first (map section_of l.yielded) l.lanes.items;
}
