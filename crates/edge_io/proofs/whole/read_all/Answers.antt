-- What was read before, and what the last read brought, are gone from the source.
use Rattle.std.proofs.Common.{◌≡◌, ℕ, ◌+◌, List, ◌++◌, length, take, refl, arith, length-append}
use Rattle.std.proofs.KnownBytes.{Consumes-trans}
use Rattle.edge_io.proofs.whole.read_all.Goals as goal

joined_length : (before piece : List ℕ) (n : ℕ) → n ≡ length (take n piece) → length (before ++ take n piece) ≡ length before + n
joined_length before piece n e = omega (arith, length-append before (take n piece))

pub returns-then-count-limit-clause-given : goal.returns-then-count-limit-clause-given
returns-then-count-limit-clause-given g c =
    let joined = joined_length c.loop-count.bytes.items c.read.new.buf c.in-Ok.count c.in-Ok.ensures.bound.1 in
    (_, Consumes-trans _ _ _ _ _ c.loop-count.invariant.0 c.in-Ok.ensures.bytes.0, (λ _. omega arith, λ _. refl))

pub returns-then-is_err-clause-given : goal.returns-then-is_err-clause-given
returns-then-is_err-clause-given g c =
    let joined = joined_length c.loop-count.bytes.items c.read.new.buf c.in-Ok.count c.in-Ok.ensures.bound.1 in
    (_, Consumes-trans _ _ _ _ _ c.loop-count.invariant.0 c.in-Ok.ensures.bytes.0, (λ e. absurd (cc), λ h. absurd (omega arith)))
