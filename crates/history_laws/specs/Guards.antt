-- Guarded bits stay guarded and never change.
use Rattle.std.specs.Prelude.{◌≡◌, ℕ, ◌≤◌, true, Some, All}
use Rattle.event_words.specs.Valid.{IsValidShape}
use Rattle.unit_core.specs.Units.{UnitState}
use Rattle.unit_core.specs.Histories.{History, state_at}
use Rattle.unit_core.specs.Guarded.{bit_of, is_guarded}

-- Each bit that is guarded in the first state is guarded in the second, and has the same value.
abbrev pub KeepsGuardedBits : UnitState → UnitState → Type 0
KeepsGuardedBits x y =
    (index i : ℕ) → is_guarded x index i ≡ true → (is_guarded y index i ≡ true) × (bit_of y index i ≡ bit_of x index i)

-- A bit of unit u that is guarded at place j is guarded at each later place k, and has the same value
-- there.
abbrev pub KeepsGuards : History → Type 0
KeepsGuards h =
    (u j k : ℕ) (x y : UnitState) → j ≤ k → state_at h j u ≡ Some x → state_at h k u ≡ Some y → KeepsGuardedBits x y

abbrev pub LawGuards : Type 0
LawGuards = (h : History) → All IsValidShape h.shapes → KeepsGuards h
