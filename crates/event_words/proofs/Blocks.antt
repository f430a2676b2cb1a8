-- The bytes of a block that is aligned to its size.
use Rattle.std.proofs.Common.{◌≡◌, ℕ, ◌+◌, ◌*◌, ◌/◌, ◌<◌, ◌≤◌, ◌&&◌, true, false, eqb, ltb, leb, arith, refl, ap, ⊎_elim}
use Rattle.std.proofs.Math.Nat.{add-mul, one-mul}
use Rattle.std.proofs.lemmas.Nat.{div-add-mod', mod_below, le-div, div_below}
use Rattle.std.proofs.lemmas.Bool.{cases_lt}
use Rattle.std.proofs.lemmas.Bool.Decides.{nat_tests}

-- The numbers with one quotient are those of one block.
pub block_bytes : (s q x : ℕ) → 0 < s → eqb (x / s) q ≡ (leb (q * s) x && ltb x (q * s + s))
block_bytes s q x h =
    let split = div-add-mod' x s in
    let rem = mod_below x s h in
    ⊎_elim
    (λ (under : x < q * s).
    let ne : x / s ≡ q → ⊥ = λ e. absurd (let e2 : x / s * s ≡ q * s = ap (λ y. y * s) e in omega arith) in
    let f : leb (q * s) x ≡ false = search (nat_tests, arith) in
    let g : eqb (x / s) q ≡ false = search (nat_tests, arith) in
    rw (f, g) refl)
    (λ (from : q * s ≤ x). ⊎_elim
    (λ (upto : x < q * s + s).
    let a1 = le-div q x s h from in
    let a2 = div_below x s (q + 1) h (rw (add-mul q 1 s, one-mul) upto) in
    let f : leb (q * s) x ≡ true = search (nat_tests, arith) in
    let k : ltb x (q * s + s) ≡ true = search (nat_tests, arith) in
    let g : eqb (x / s) q ≡ true = search (nat_tests, arith) in
    rw (f, k, g) refl)
    (λ (past : q * s + s ≤ x).
    let ne : x / s ≡ q → ⊥ = λ e. absurd (let e2 : x / s * s ≡ q * s = ap (λ y. y * s) e in omega arith) in
    let f : leb (q * s) x ≡ true = search (nat_tests, arith) in
    let k : ltb x (q * s + s) ≡ false = search (nat_tests, arith) in
    let g : eqb (x / s) q ≡ false = search (nat_tests, arith) in
    rw (f, k, g) refl)
    (cases_lt x (q * s + s)))
    (cases_lt x (q * s))
