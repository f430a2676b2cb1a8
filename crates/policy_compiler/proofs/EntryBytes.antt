-- The bytes of the entries that a rule is compiled to.
use Rattle.std.proofs.Common.{◌≡◌, ℕ, zero, suc, ◌+◌, ◌-◌, ◌*◌, ◌^◌, ◌/◌, ◌%◌, ◌<◌, ◌≤◌, ◌==◌, ◌&&◌, ◌||◌, Bool, true, false, eqb, leb, cond, arith, refl, sym, ap, ◌∙◌, subst, ⊎_elim}
use Rattle.std.specs.Int.{bit_at, trailing_ones, w64, is_power_of_two}
use Rattle.std.specs.Int.RustNames.{count_ones}
use Rattle.std.proofs.Math.Nat.{mul_assoc}
use Rattle.std.proofs.Math.Pow.{pow_mono}
use Rattle.std.proofs.lemmas.Nat.{pow_pos, pow-add, div-add-mod', zero_from_ones, ones_le_self, div-mul-add}
use Rattle.std.proofs.lemmas.Nat.Bits.{bit_at-trailing_ones, bit_at_above, bit_at_cat_low, bit_at_ones}
use Rattle.std.proofs.lemmas.Bool.{cases_lt}
use Rattle.std.proofs.lemmas.Bool.Decides.{nat_tests}
use lib.Count.{ones_step}
use Rattle.event_words.specs.declared.address_mode.AddressMode.{AddressMode}
use Rattle.event_words.specs.declared.address_mode.AddressMode.TheVariants.{Off, Tor, Na4, Napot}
use Rattle.event_words.specs.declared.register.Register.TheVariants.{EntryCfg}
use Rattle.event_words.specs.Registers.{Registers, bits_of}
use Rattle.event_words.specs.Guards.{reg}
use Rattle.event_words.specs.Entries.{word_address, mode_at, mode_of, bottom_of, is_byte_of, is_byte_by, is_between}
use Rattle.event_words.proofs.Blocks.{block_bytes}
use Rattle.register_fields.specs.Rights.{rights_bits}
use Rattle.policy_compiler.specs.declared.policy.Rule.{Rule}
use Rattle.policy_compiler.specs.Policies.{IsRule, is_single}
use Rattle.policy_compiler.specs.Images.{single_entry}

-- ---- modes

with_mode : (r : Registers) (i x : ℕ) (m : AddressMode) → mode_of r i ≡ m → is_byte_of r i x ≡ is_byte_by r i x m
with_mode r i x m e = ap (is_byte_by r i x) e

mode_from : (r : Registers) (i rights m : ℕ) → reg r (EntryCfg i) ≡ rights + 8 * m → rights < 8 → m < 4 → mode_of r i ≡ mode_at m
mode_from r i rights m e h k =
    let bits : bits_of 3 2 (reg r (EntryCfg i)) ≡ m = rw e (omega arith) in
    ap mode_at bits

pub off_bytes : (r : Registers) (i x : ℕ) → reg r (EntryCfg i) ≡ 0 → is_byte_of r i x ≡ false
off_bytes r i x e = with_mode r i x Off (mode_from r i 0 0 e (omega arith) (omega arith))

pub na4_bytes : (r : Registers) (i x from rights : ℕ) → reg r (EntryCfg i) ≡ rights + 16 → rights < 8 → word_address r i ≡ from / 4 → from % 4 ≡ 0
    → is_byte_of r i x ≡ is_between from (from + 4) x
na4_bytes r i x from rights e h w m =
    let f : 4 * word_address r i ≡ from = omega arith in
    with_mode r i x Na4 (mode_from r i rights 2 e h (omega arith)) ∙ ap (λ n. is_between n (n + 4) x) f

pub tor_bytes : (r : Registers) (i x bottom top rights : ℕ) → reg r (EntryCfg (i + 1)) ≡ rights + 8 → rights < 8 → word_address r i ≡ bottom / 4 → word_address r (i + 1) ≡ top / 4
    → bottom % 4 ≡ 0 → top % 4 ≡ 0 → is_byte_of r (i + 1) x ≡ is_between bottom top x
tor_bytes r i x bottom top rights e h low high m n =
    let z : eqb (i + 1) 0 ≡ false = search (nat_tests, arith) in
    let p : (i + 1) - 1 ≡ i = omega arith in
    let b : bottom_of r (i + 1) ≡ bottom = rw (z, p) (omega arith) in
    let t : 4 * word_address r (i + 1) ≡ top = omega arith in
    with_mode r (i + 1) x Tor (mode_from r (i + 1) rights 1 e h (omega arith)) ∙ (ap (λ n. is_between n (4 * word_address r (i + 1)) x) b ∙ ap (λ n. is_between bottom n x) t)

-- ---- blocks

-- a number with n ones below a zero
ones_below : (q k : ℕ) → q * 2 ^ (k + 1) + (2 ^ k - 1) + 1 < 2 ^ 64 → trailing_ones w64 (q * 2 ^ (k + 1) + (2 ^ k - 1)) ≡ k
ones_below q k h =
    let w = q * 2 ^ (k + 1) + (2 ^ k - 1) in
    let t = bit_at-trailing_ones w64 w h in
    let pos = pow_pos k in
    let pos1 = pow_pos (k + 1) in
    let double : 2 ^ (k + 1) ≡ 2 ^ k * 2 = pow-add 2 k 1 in
    let zero_at : bit_at w k ≡ 0 = bit_at_cat_low q (k + 1) (2 ^ k - 1) k (omega arith) ∙ bit_at_above (2 ^ k - 1) k k (omega arith) (omega arith) in
    ⊎_elim
    (λ (less : trailing_ones w64 w < k).
    let one : bit_at w (trailing_ones w64 w) ≡ 1 = bit_at_cat_low q (k + 1) (2 ^ k - 1) (trailing_ones w64 w) (omega arith) ∙ bit_at_ones k (trailing_ones w64 w) less in
    absurd (omega arith))
    (λ (more : k ≤ trailing_ones w64 w). ⊎_elim
    (λ (above : k < trailing_ones w64 w). let one = t.2 k above in absurd (omega arith))
    (λ (upto : trailing_ones w64 w ≤ k). omega arith)
    (cases_lt k (trailing_ones w64 w)))
    (cases_lt (trailing_ones w64 w) k)

-- one bit is a power of two
power_of_ones : (d n : ℕ) → n ≤ d → count_ones n ≡ 1 → (k : ℕ) × (n ≡ 2 ^ k)
power_of_ones zero n h e = absurd (let z : n ≡ 0 = omega arith in let c : count_ones 0 ≡ 1 = subst (λ m. count_ones m ≡ 1) z e in let f = ones_le_self 0 in omega arith)
power_of_ones (suc d) n h e =
    let s = ones_step n in
    ⊎_elim
    (λ (even : n % 2 < 1).
    let rest = power_of_ones d (n / 2) (omega arith) (omega arith) in
    let double : 2 ^ (rest.0 + 1) ≡ 2 ^ rest.0 * 2 = pow-add 2 rest.0 1 in
    let half = rest.1 in
    let out : (k : ℕ) × (n ≡ 2 ^ k) = (rest.0 + 1, omega arith) in out)
    (λ (odd : 1 ≤ n % 2).
    let z = zero_from_ones (n / 2) (omega arith) in
    let out : (k : ℕ) × (n ≡ 2 ^ k) = (0, omega arith) in out)
    (cases_lt (n % 2) 1)

napot_bytes : (r : Registers) (i x from size k rights : ℕ) → reg r (EntryCfg i) ≡ rights + 24 → rights < 8 → word_address r i ≡ from / 4 + size / 8 - 1 → size ≡ 2 ^ (k + 3) → from % size ≡ 0
    → from + size ≤ 2 ^ 52 → is_byte_of r i x ≡ is_between from (from + size) x
napot_bytes r i x from size k rights e h w p m top =
    let q = from / size in
    let pos = pow_pos k in
    let two : 2 ^ (k + 1) ≡ 2 ^ k * 2 = pow-add 2 k 1 in
    let eight : 2 ^ (k + 3) ≡ 2 ^ k * 8 = pow-add 2 k 3 in
    let some : 0 < size = omega arith in
    let split : q * size + from % size ≡ from = div-add-mod' from size in
    let whole : q * size ≡ from = omega arith in
    let q2 : q * 2 ^ (k + 1) ≡ q * 2 ^ k * 2 = ap (λ n. q * n) two ∙ sym (mul_assoc q (2 ^ k) 2) in
    let q8 : q * size ≡ q * 2 ^ k * 8 = ap (λ n. q * n) (p ∙ eight) ∙ sym (mul_assoc q (2 ^ k) 8) in
    let word : word_address r i ≡ q * 2 ^ (k + 1) + (2 ^ k - 1) = omega arith in
    let ones : trailing_ones w64 (word_address r i) ≡ k = rw word (ones_below q k (omega arith)) in
    let block : 2 ^ (trailing_ones w64 (word_address r i) + 3) ≡ size = rw ones (sym p) in
    let rest : 4 * word_address r i ≡ q * size + (4 * 2 ^ k - 4) = omega arith in
    let quotient : 4 * word_address r i / size ≡ q = rw rest (div-mul-add q size (4 * 2 ^ k - 4) (omega arith)) in
    with_mode r i x Napot (mode_from r i rights 3 e h (omega arith))
    ∙ (ap (λ s. eqb (x / s) (4 * word_address r i / s)) block
    ∙ (ap (eqb (x / size)) quotient ∙ (block_bytes size q x some ∙ ap (λ n. is_between n (n + size) x) whole)))

-- ---- single rules

and_left : (a b : Bool) → (a && b) ≡ true → a ≡ true
and_left true b e = refl
and_left false b e = absurd (let x : false ≡ true = e in cc)

and_right : (a b : Bool) → (a && b) ≡ true → b ≡ true
and_right true b e = e
and_right false b e = absurd (let x : false ≡ true = e in cc)

or_else : (a b : Bool) → (a || b) ≡ true → a ≡ false → b ≡ true
or_else true b e f = absurd (let x : true ≡ false = f in cc)
or_else false b e f = e

size_power : (size : ℕ) → is_power_of_two size ≡ true → 8 ≤ size → (k : ℕ) × (size ≡ 2 ^ (k + 3))
size_power size e h =
    let one : count_ones size ≡ 1 = grind (arith, nat_tests) in
    let p = power_of_ones size size (omega arith) one in
    let much = p.1 in
    let some : 3 ≤ p.0 = ⊎_elim
    (λ (l : p.0 < 3). absurd (let small : 2 ^ p.0 ≤ 2 ^ 2 = pow_mono {j = 2} (omega arith) in omega arith))
    (λ (g : 3 ≤ p.0). g)
    (cases_lt p.0 3) in
    let back : p.0 - 3 + 3 ≡ p.0 = omega arith in
    let out : (k : ℕ) × (size ≡ 2 ^ (k + 3)) = (p.0 - 3, rw back p.1) in out

abbrev EntryOf : Registers → ℕ → Rule → Bool → Type 0
EntryOf r i u small = (word_address r i ≡ cond small (u.from / 4) (u.from / 4 + u.size / 8 - 1)) × (reg r (EntryCfg i) ≡ cond small (rights_bits u.rights + 16) (rights_bits u.rights + 24))

block_rule : (r : Registers) (i x : ℕ) (u : Rule) (b : Bool) → IsRule u → ((u.size == 4) || (leb 8 u.size && (is_power_of_two u.size && (u.from % u.size == 0)))) ≡ true → (u.size == 4) ≡ b → EntryOf r i u b
    → is_byte_of r i x ≡ is_between u.from (u.from + u.size) x
block_rule r i x u true h s e p =
    let four : u.size ≡ 4 = grind (arith, nat_tests) in
    na4_bytes r i x u.from (rights_bits u.rights) p.1 h.rights p.0 h.from ∙ ap (λ n. is_between u.from (u.from + n) x) (sym four)
block_rule r i x u false h s e p =
    let rest = or_else (u.size == 4) (leb 8 u.size && (is_power_of_two u.size && (u.from % u.size == 0))) s e in
    let big : leb 8 u.size ≡ true = and_left (leb 8 u.size) (is_power_of_two u.size && (u.from % u.size == 0)) rest in
    let parts = and_right (leb 8 u.size) (is_power_of_two u.size && (u.from % u.size == 0)) rest in
    let pow = and_left (is_power_of_two u.size) (u.from % u.size == 0) parts in
    let divides : (u.from % u.size == 0) ≡ true = and_right (is_power_of_two u.size) (u.from % u.size == 0) parts in
    let eight : 8 ≤ u.size = grind (arith, nat_tests) in
    let none : u.from % u.size ≡ 0 = grind (arith, nat_tests) in
    let k = size_power u.size pow eight in
    napot_bytes r i x u.from u.size k.0 (rights_bits u.rights) p.1 h.rights p.0 k.1 none h.end

entry_cond : (b : Bool) (r : Registers) (i : ℕ) (u : Rule) → (u.size == 4) ≡ b → word_address r i ≡ (single_entry u).word → reg r (EntryCfg i) ≡ (single_entry u).cfg → EntryOf r i u b
entry_cond true r i u e w c = (rw e at w, rw e at c)
entry_cond false r i u e w c = (rw e at w, rw e at c)

-- The entry of a single rule has its bytes.
pub single_bytes : (r : Registers) (i x : ℕ) (u : Rule) → IsRule u → is_single u.from u.size ≡ true → word_address r i ≡ (single_entry u).word → reg r (EntryCfg i) ≡ (single_entry u).cfg
    → is_byte_of r i x ≡ is_between u.from (u.from + u.size) x
unfolding is_single
single_bytes r i x u h s w c = block_rule r i x u (u.size == 4) h s refl (entry_cond (u.size == 4) r i u refl w c)
