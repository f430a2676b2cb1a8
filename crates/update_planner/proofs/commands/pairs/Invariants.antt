-- What is pushed and the writes of the entries that are left are those of all.
use Rattle.std.proofs.Common.{◌≡◌, ◌++◌, map}
use Rattle.update_planner.specs.Values.{entry_pair}
use Rattle.update_planner.proofs.commands.pairs.Given as goal

abbrev pub invariant-loop-index : goal.invariant-loop-index
invariant-loop-index l = l.writes.items ++ map entry_pair l.index-iterator ≡ map entry_pair l.values.entries
