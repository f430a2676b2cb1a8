-- Where registers are, told both ways: an index is a register's exactly where the layout says so.
use Rattle.std.specs.Prelude.{◌≡◌, ◌↔◌, ℕ, IsTrue, Option, Some}
use Rattle.event_words.specs.declared.shape.Shape.{Shape}
use Rattle.event_words.specs.declared.register.Register.{Register}
use Rattle.event_words.specs.Registers.{index_of, has_register}

-- The register found at an index is the one of the shape that stands there, and none is found where
-- none stands.
abbrev pub IsRegisterAt : Shape → ℕ → Option Register → Type 0
IsRegisterAt h index found =
    (q : Register) → (found ≡ Some q) ↔ ((index_of q ≡ index) × IsTrue (has_register h q))
