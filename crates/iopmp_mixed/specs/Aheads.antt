-- A source that can be looked at before it is read, as contracts see it.
use Rattle.std.specs.Prelude.{◌≡◌, ℕ, Bool, List}
use Rattle.std.specs.declared.option.Option.{Option}
use Rattle.std.specs.Io.KnownBytes.{prepend_known, Keeps}

-- the source below, the bytes that were taken from it and not yet given, whether a failure waits, and the failures
-- that were handed on
pub record AheadView (S : Type 0) : Type 0 where
  pub inner : S
  pub ahead : List ℕ
  pub failed : Bool
  pub faults : ℕ

-- what is left: the bytes that were taken, and then what the source below has left
abbrev pub left_of : {S : Type 0} → (S → Option (List ℕ)) → AheadView S → Option (List ℕ)
left_of left s = prepend_known s.ahead (left s.inner)

abbrev pub handed_on : {S : Type 0} → AheadView S → ℕ
handed_on s = s.faults

-- A look changes nothing of what is left, where that is told, and hands no failure on.
pub record LooksAhead {S : Type 0} (left : S → Option (List ℕ)) (old new : AheadView S) : Type 0 where
  pub same : Keeps (left_of left old) (left_of left new)
  pub quiet : new.faults ≡ old.faults
