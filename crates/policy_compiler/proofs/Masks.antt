-- The bits of the words of SRCMD_EN and SRCMD_PERM.
use Rattle.std.proofs.Common.{◌≡◌, ℕ, zero, suc, ◌+◌, ◌-◌, ◌*◌, ◌/◌, ◌^◌, ◌<◌, ◌≤◌, Bool, true, false, ◌==◌, cond, List, [], ◌∷◌, length, arith, refl, sym, ap, ◌∙◌, subst}
use Rattle.std.specs.Int.{bit_at}
use Rattle.std.proofs.Math.Nat.{add-mul, mul_assoc, mul_comm}
use Rattle.std.proofs.lemmas.Nat.{pow-add}
use Rattle.std.proofs.lemmas.Nat.Bits.{bit_at-suc, bit_at_cat_high}
use Rattle.event_words.specs.Registers.{has_bit}
use Rattle.policy_compiler.specs.Images.{HardwareOf, enable_bits, permissions_from, permissions}
use Rattle.policy_compiler.proofs.Puts.{members_at}
use Rattle.policy_compiler.proofs.WriteSteps.{four_times}

abbrev pub count_bit : Bool → ℕ
count_bit b = cond b 1 0

bit_of_count : (b : Bool) → (count_bit b == 1) ≡ b
bit_of_count true = refl
bit_of_count false = refl

count_small : (b : Bool) → count_bit b ≤ 1
count_small true = omega arith
count_small false = omega arith

-- bit k for domain k of which the requester is a member
abbrev pub mask : ℕ → List HardwareOf → ℕ
mask s [] = 0
mask s (h ∷ hs) = count_bit (has_bit h.members s) + mask s hs * 2

term_of_bit : (b : Bool) (a : ℕ) → cond b a 0 ≡ count_bit b * a
term_of_bit true a = omega arith
term_of_bit false a = omega arith

pub enables_mask : (s m : ℕ) (hs : List HardwareOf) → enable_bits s m hs ≡ mask s hs * 2 ^ (m + 1)
enables_mask s m [] = omega arith
enables_mask s m (h ∷ hs) =
    let a = 2 ^ (m + 1) in
    let twice : 2 ^ ((m + 1) + 1) ≡ 2 ^ (m + 1) * 2 = pow-add 2 (m + 1) 1 in
    let ih = enables_mask s (m + 1) hs in
    let shifted : mask s hs * 2 * 2 ^ (m + 1) ≡ mask s hs * 2 ^ ((m + 1) + 1) = mul_assoc (mask s hs) 2 (2 ^ (m + 1)) ∙ ap (λ x. mask s hs * x) (mul_comm 2 (2 ^ (m + 1)) ∙ sym twice) in
    let split = add-mul (count_bit (has_bit h.members s)) (mask s hs * 2) (2 ^ (m + 1)) in
    let head = term_of_bit (has_bit h.members s) (2 ^ (m + 1)) in
    omega arith

pub mask_small : (s : ℕ) (hs : List HardwareOf) → mask s hs < 2 ^ length hs
mask_small s [] = omega arith
mask_small s (h ∷ hs) =
    let e : length hs + 1 ≡ suc (length hs) = omega arith in
    let twice : 2 ^ (length hs + 1) ≡ 2 ^ length hs * 2 = pow-add 2 (length hs) 1 in
    let ih = mask_small s hs in
    let b = count_small (has_bit h.members s) in
    subst (λ k. count_bit (has_bit h.members s) + mask s hs * 2 < 2 ^ k) e (omega arith)

mask_bit : (s : ℕ) (hs : List HardwareOf) (k : ℕ) → k < length hs → bit_at (mask s hs) k ≡ count_bit (has_bit (members_at hs k) s)
mask_bit s [] k p = absurd (omega arith)
mask_bit s (h ∷ hs) zero p = let b = count_small (has_bit h.members s) in omega arith
mask_bit s (h ∷ hs) (suc k) p =
    let b = count_small (has_bit h.members s) in
    let half : (count_bit (has_bit h.members s) + mask s hs * 2) / 2 ≡ mask s hs = omega arith in
    bit_at-suc (count_bit (has_bit h.members s) + mask s hs * 2) k ∙ (ap (λ n. bit_at n k) half ∙ mask_bit s hs k (omega arith))

-- Bit k + 1 of SRCMD_EN(s) says whether the requester is a member of domain k.
pub enable_member : (s : ℕ) (hs : List HardwareOf) (k : ℕ) → k < length hs → has_bit (enable_bits s 0 hs) (k + 1) ≡ has_bit (members_at hs k) s
enable_member s hs k p =
    let e = enables_mask s 0 hs in
    let half : enable_bits s 0 hs / 2 ≡ mask s hs = omega arith in
    let n : k + 1 ≡ suc k = omega arith in
    ap (λ i. has_bit (enable_bits s 0 hs) i) n
    ∙ (ap (λ x. x == 1) (bit_at-suc (enable_bits s 0 hs) k ∙ (ap (λ x. bit_at x k) half ∙ mask_bit s hs k p)) ∙ bit_of_count (has_bit (members_at hs k) s))

-- ---- SRCMD_PERM

abbrev pub three_if : Bool → ℕ
three_if b = cond b 3 0

-- two bits for each of n requesters from s on
abbrev pub quads : ℕ → ℕ → ℕ → ℕ
quads members s zero = 0
quads members s (suc n) = quads members (s + 1) n * 4 + three_if (has_bit members s)

three_small : (b : Bool) → three_if b < 4
three_small true = omega arith
three_small false = omega arith

three_term : (b : Bool) (a : ℕ) → cond b (3 * a) 0 ≡ three_if b * a
three_term true a = refl
three_term false a = omega arith

pub permissions_quads : (members s n : ℕ) → permissions_from members s n ≡ quads members s n * 2 ^ (2 * s)
permissions_quads members s zero = omega arith
permissions_quads members s (suc n) =
    let a = 2 ^ (2 * s) in
    let ih = permissions_quads members (s + 1) n in
    let four = four_times s in
    let shifted : quads members (s + 1) n * 4 * 2 ^ (2 * s) ≡ quads members (s + 1) n * 2 ^ (2 * (s + 1)) = mul_assoc (quads members (s + 1) n) 4 (2 ^ (2 * s)) ∙ ap (λ x. quads members (s + 1) n * x) (sym four) in
    let split = add-mul (quads members (s + 1) n * 4) (three_if (has_bit members s)) (2 ^ (2 * s)) in
    let head = three_term (has_bit members s) (2 ^ (2 * s)) in
    omega arith

pub quads_small : (members s n : ℕ) → quads members s n < 2 ^ (2 * n)
quads_small members s zero = omega arith
quads_small members s (suc n) =
    let e : 2 * (n + 1) ≡ 2 * suc n = omega arith in
    let four = four_times n in
    let ih = quads_small members (s + 1) n in
    let b = three_small (has_bit members s) in
    subst (λ k. quads members (s + 1) n * 4 + three_if (has_bit members s) < 2 ^ k) e (omega arith)

two_of : (b : Bool) (q : ℕ) → (bit_at (q * 4 + three_if b) 0 ≡ count_bit b) × (bit_at (q * 4 + three_if b) 1 ≡ count_bit b)
two_of true q = (omega arith, omega arith)
two_of false q = (omega arith, omega arith)

quad_bits : (members s n k : ℕ) → k < n → (bit_at (quads members s n) (2 * k) ≡ count_bit (has_bit members (s + k))) × (bit_at (quads members s n) (2 * k + 1) ≡ count_bit (has_bit members (s + k)))
quad_bits members s zero k p = absurd (omega arith)
quad_bits members s (suc n) zero p =
    let e : s ≡ s + zero = omega arith in
    let t = two_of (has_bit members s) (quads members (s + 1) n) in
    (t.0 ∙ ap (λ i. count_bit (has_bit members i)) e, t.1 ∙ ap (λ i. count_bit (has_bit members i)) e)
quad_bits members s (suc n) (suc k) p =
    let e : (s + 1) + k ≡ s + suc k = omega arith in
    let b = three_small (has_bit members s) in
    let even : 2 * suc k - 2 ≡ 2 * k = omega arith in
    let odd : 2 * suc k + 1 - 2 ≡ 2 * k + 1 = omega arith in
    let ih = quad_bits members (s + 1) n k (omega arith) in (
      bit_at_cat_high (quads members (s + 1) n) 2 (three_if (has_bit members s)) (2 * suc k) b (omega arith) ∙ (ap (bit_at (quads members (s + 1) n)) even ∙ (ih.0 ∙ ap (λ i. count_bit (has_bit members i)) e)),
      bit_at_cat_high (quads members (s + 1) n) 2 (three_if (has_bit members s)) (2 * suc k + 1) b (omega arith) ∙ (ap (bit_at (quads members (s + 1) n)) odd ∙ (ih.1 ∙ ap (λ i. count_bit (has_bit members i)) e)),
    )

pub permissions_is : (members n : ℕ) → permissions n members ≡ quads members 0 n
unfolding permissions
permissions_is members n = permissions_quads members 0 n ∙ omega arith

-- Bits 2s and 2s + 1 of SRCMD_PERM say whether requester s is a member.
pub permission_member : (members n s : ℕ) → s < n → (has_bit (permissions n members) (2 * s) ≡ has_bit members s) × (has_bit (permissions n members) (2 * s + 1) ≡ has_bit members s)
permission_member members n s p =
    let e = permissions_is members n in
    let z : 0 + s ≡ s = omega arith in
    let b = quad_bits members 0 n s p in (
      ap (λ w. has_bit w (2 * s)) e ∙ (ap (λ x. x == 1) b.0 ∙ (bit_of_count (has_bit members (0 + s)) ∙ ap (has_bit members) z)),
      ap (λ w. has_bit w (2 * s + 1)) e ∙ (ap (λ x. x == 1) b.1 ∙ (bit_of_count (has_bit members (0 + s)) ∙ ap (has_bit members) z)),
    )
