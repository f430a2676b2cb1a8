-- What several reads and several writes do to streams that tell their bytes.
use Rattle.std.specs.Prelude.{ℕ, ◌≤◌, List, length, take}
use Rattle.std.specs.declared.option.Option.{Option}
use Rattle.std.specs.Io.KnownBytes.{Appends, Consumes}

-- some bytes were taken from the front of what was left, and the fact holds of them
abbrev pub TakesFront : Option (List ℕ) → Option (List ℕ) → (List ℕ → Type 0) → Type 0
TakesFront old new fact = (given : List ℕ) × Consumes old new given × fact given

-- a prefix of the bytes was appended
abbrev pub AppendsPrefix : Option (List ℕ) → Option (List ℕ) → List ℕ → Type 0
AppendsPrefix old new bytes = (n : ℕ) × (n ≤ length bytes) × Appends old new (take n bytes)
