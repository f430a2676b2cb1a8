-- One turn of a loop over requesters.
use Rattle.std.proofs.Common.{◌≡◌, ℕ, suc, ◌+◌, ◌-◌, ◌*◌, ◌^◌, ◌<◌, ◌≤◌, List, ◌++◌, append_assoc, arith, ap, sym, ◌∙◌, subst}
use Rattle.std.proofs.Math.Pow.{pow_mono}
use Rattle.std.proofs.lemmas.Nat.{pow-add}
use Rattle.policy_compiler.specs.declared.image.RegPair.{RegPair}
use Rattle.policy_compiler.specs.Images.{HardwareOf, enables_of, enable_writes, permission, permissions_from}

enables_step : (domains : ℕ) (hs : List HardwareOf) (s n : ℕ) → s < n → enable_writes domains hs s (n - s) ≡ enables_of domains hs s ++ enable_writes domains hs (s + 1) (n - (s + 1))
enables_step domains hs s n h = let e : n - s ≡ suc (n - (s + 1)) = omega arith in ap (enable_writes domains hs s) e

pub enables_more : (domains : ℕ) (hs : List HardwareOf) (s n : ℕ) (ws new all : List RegPair) → s < n → new ≡ ws ++ enables_of domains hs s → ws ++ enable_writes domains hs s (n - s) ≡ all
    → new ++ enable_writes domains hs (s + 1) (n - (s + 1)) ≡ all
enables_more domains hs s n ws new all h e k =
    ap (λ xs. xs ++ enable_writes domains hs (s + 1) (n - (s + 1))) e
    ∙ (append_assoc ws (enables_of domains hs s) (enable_writes domains hs (s + 1) (n - (s + 1)))
    ∙ (sym (ap (λ xs. ws ++ xs) (enables_step domains hs s n h)) ∙ k))

pub permissions_step : (members s n : ℕ) → s < n → permissions_from members s (n - s) ≡ permission members s + permissions_from members (s + 1) (n - (s + 1))
permissions_step members s n h = let e : n - s ≡ suc (n - (s + 1)) = omega arith in ap (permissions_from members s) e

-- two bits more
pub four_times : (s : ℕ) → 2 ^ (2 * (s + 1)) ≡ 4 * 2 ^ (2 * s)
four_times s = let e : 2 + 2 * s ≡ 2 * (s + 1) = omega arith in subst (λ k. 2 ^ k ≡ 4 * 2 ^ (2 * s)) e (pow-add 2 2 (2 * s))

pub four_small : (s : ℕ) → s < 32 → 2 ^ (2 * (s + 1)) ≤ 2 ^ 64
four_small s h = pow_mono {j = 64} (omega arith)

pub four_room : (s : ℕ) → s < 32 → 4 * 2 ^ (2 * s) ≤ 2 ^ 64
four_room s h = rw (← four_times s) (four_small s h)
