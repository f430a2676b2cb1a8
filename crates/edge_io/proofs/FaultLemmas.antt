-- A count that rose within a longer call rose in it.
use Rattle.std.proofs.Common.{ℕ, ◌≤◌, arith}
use Rattle.edge_io.specs.Faults.{Rose}

pub rose_within : (first before after last : ℕ) → first ≤ before → before ≤ after → after ≤ last → Rose before after → Rose first last
rose_within first before after last f m l h = grind arith
