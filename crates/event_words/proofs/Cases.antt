-- Proofs by what a test says.
use Rattle.std.proofs.Common.{◌≡◌, ℕ, ◌<◌, ◌≤◌, Bool, true, false, ltb, arith, refl}
use Rattle.std.proofs.lemmas.Bool.Decides.{nat_tests}

pub by_test : (b : Bool) (P : Type 0) → (b ≡ true → P) → (b ≡ false → P) → P
by_test true P f g = f refl
by_test false P f g = g refl

pub by_less : (m n : ℕ) (P : Type 0) → (m < n → P) → (n ≤ m → P) → P
by_less m n P f g = by_test (ltb m n) P (λ t. f (grind (arith, nat_tests))) (λ t. g (grind (arith, nat_tests)))
