-- When a stream may fail: only where its count of faults rose.
use Rattle.std.specs.Prelude.{◌≡◌, ℕ, ◌+◌, ◌-◌, ◌^◌, ◌<◌, ◌≤◌, ◌⊎◌, min, OnErr}
use Rattle.std.specs.declared.result.Result.{Result}

-- a count rose in a call, or stands at the end of 64 bits after it
abbrev pub Rose : ℕ → ℕ → Type 0
Rose before after = (before < after) ⊎ (after ≡ 2 ^ 64 - 1)

-- one more fault, where a count of 64 bits stands still at its end
abbrev pub one_more_fault : ℕ → ℕ
one_more_fault faults = min (faults + 1) (2 ^ 64 - 1)

-- a count of faults never falls in a call, and the call fails only where it rose
pub record CountsFaults {T E : Type 0} (before after : ℕ) (result : Result T E) : Type 0 where
  pub kept : before ≤ after
  pub failed : OnErr result (Rose before after)
