-- What was taken is gone from the source, and each turn takes a byte.
use Rattle.std.proofs.Common.{◌≡◌, ◌++◌, ◌-◌, ◌+◌, vec_len}
use Rattle.edge_io.specs.Streams.{TakesFront}
use Rattle.iopmp_mixed.proofs.ahead.take_ahead.Given as goal

abbrev pub invariant-loop-piece : goal.invariant-loop-piece
invariant-loop-piece g l =
    TakesFront (g.S.Source.left l.initial.source) (g.S.Source.left l.source) (λ given. l.bytes.items ≡ l.initial.bytes.items ++ given)

abbrev pub decreases-loop-piece : goal.decreases-loop-piece
decreases-loop-piece g l = (l.limit + 1) - vec_len l.bytes
