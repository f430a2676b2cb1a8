-- What was read is gone from the source, and each turn brings a byte.
use Rattle.std.proofs.Common.{◌≤◌, ◌-◌, ◌+◌, vec_len}
use Rattle.std.specs.Io.KnownBytes.{Consumes}
use Rattle.edge_io.proofs.whole.read_all.Given as goal

abbrev pub invariant-loop-count : goal.invariant-loop-count
invariant-loop-count g l =
    Consumes (g.S.Source.left l.initial.source) (g.S.Source.left l.source) l.bytes.items
    × (vec_len l.bytes ≤ l.limit)
    × (g.S.Source.faults l.initial.source ≤ g.S.Source.faults l.source)

abbrev pub decreases-loop-count : goal.decreases-loop-count
decreases-loop-count g l = (l.limit + 1) - vec_len l.bytes
