-- The first write of an image, and the last.
use Rattle.std.proofs.Common.{◌≡◌, ℕ, ◌+◌, ◌-◌, ◌*◌, ◌/◌, ◌%◌, ◌^◌, ◌<◌, ◌≤◌, Bool, true, false, ◌&&◌, ◌==◌, ltb, Some, bit_and, bit_or, get_or, set, arith, refl, ap, ◌∙◌}
use Rattle.std.specs.Prelude.{is_some}
use Rattle.std.specs.Int.{bit_not, w32}
use Rattle.std.specs.Int.Bits.{or_zero_l}
use Rattle.std.proofs.Math.Nat.{mod-eq_of_lt}
use Rattle.std.proofs.Math.ListN.{length-set}
use Rattle.std.proofs.lemmas.Nat.{and_le_r, and_mask, or_mod, and_mod, pow_pos}
use Rattle.std.proofs.lemmas.List.FromFn.{length-map-range_with_len, get_or-map-range_with_len}
use Rattle.std.proofs.lemmas.Bool.Decides.{nat_tests}
use Rattle.event_words.specs.declared.shape.Shape.{Shape}
use Rattle.event_words.specs.declared.register.Register.TheVariants.{Hwcfg0, Hwcfg2, SrcmdEn}
use Rattle.event_words.specs.Registers.{Registers, word_at, bits_of, has_bit, named_at, if_had, fields_of, ruled_word, merged, set_word, reset_word, reset_of, index_count, at_reset, count_of_bool}
use Rattle.event_words.specs.Guards.{guarded_bits, is_enabled, is_prient_prog}
use Rattle.policy_compiler.specs.Policies.{IsPolicyShape}
use Rattle.policy_compiler.specs.Images.{pair}
use Rattle.policy_compiler.specs.Laws.{guarded_write}
use Rattle.policy_compiler.proofs.Plain.{IsCalm, other}

-- ---- at reset

pub reset_read : (h : Shape) (i : ℕ) → i < index_count h → word_at (at_reset h) i ≡ reset_word h i
reset_read h i p = get_or-map-range_with_len (reset_word h) 0 (index_count h) i i 0 p (omega arith)

low_false : (n i : ℕ) → n ≤ i → ltb i n ≡ false
low_false n i h = search (nat_tests, arith)

row_reset : (h : Shape) (s : ℕ) (b : Bool) → ((h.srcmd == 0) && ltb s h.rrids) ≡ b → reset_of h (if_had h (Some (SrcmdEn s))) ≡ 0
row_reset h s true e = rw e refl
row_reset h s false e = rw e refl

enable_reset : (h : Shape) (s : ℕ) → h.srcmd ≡ 0 → s < 64 → reset_word h (1024 + 8 * s) ≡ 0
enable_reset h s f p =
    let a : ltb (1024 + 8 * s) 512 ≡ false = low_false 512 (1024 + 8 * s) (omega arith) in
    let b : ltb (1024 + 8 * s) 1024 ≡ false = low_false 1024 (1024 + 8 * s) (omega arith) in
    let c : ltb (1024 + 8 * s) 2048 ≡ true = search (nat_tests, arith) in
    let d : ((1024 + 8 * s) - 1024) / 8 ≡ s = omega arith in
    let e : ((1024 + 8 * s) - 1024) % 8 ≡ 0 = omega arith in
    let n : named_at h (1024 + 8 * s) ≡ Some (SrcmdEn s) = rw (a, b, c, d, e, f) refl in
    ap (λ o. reset_of h (if_had h o)) n ∙ row_reset h s ((h.srcmd == 0) && ltb s h.rrids) refl

pub calm_reset : (h : Shape) → IsCalm h (at_reset h)
calm_reset h = record {
  shape = refl;
  len = length-map-range_with_len (reset_word h) 0 (index_count h);
  mdlck = reset_read h 16 (omega arith);
  mdlckh = reset_read h 17 (omega arith);
  mdcfglck = reset_read h 18 (omega arith);
  entrylck = reset_read h 19 (omega arith);
  hwcfg0 = reset_read h 2 (omega arith);
  enables = λ f s l. let e = reset_read h (1024 + 8 * s) (omega arith) ∙ enable_reset h s f l in omega arith;
}

pub bool_small : (b : Bool) → count_of_bool b < 2
bool_small true = omega arith
bool_small false = omega arith

bit_is : (w i : ℕ) (n : ℕ) → w / 2 ^ i % 2 ≡ n → has_bit w i ≡ (n == 1)
bit_is w i n e = ap (λ x. x == 1) e

pub reset_not_enabled : (h : Shape) (w : ℕ) → IsPolicyShape h → w ≡ reset_word h 2 → (has_bit w 0 ≡ false) × (has_bit w 13 ≡ true) × (w % 2 ≡ 0)
reset_not_enabled h w good e =
    let few = good.valid.domains in
    let format = good.valid.srcmd in
    let fixed = good.valid.k_fixed good.mdcfg in
    let a = bool_small h.sps in
    let b = bool_small (is_some h.transl) in
    let m = good.mdcfg in
    let low : w / 2 ^ 0 % 2 ≡ 0 = omega arith in
    let high : w / 2 ^ 13 % 2 ≡ 1 = omega arith in
    (bit_is w 0 0 low, bit_is w 13 1 high, omega arith)

-- ---- the first write: the number of priority entries

pub calm_prio : (h : Shape) (r : Registers) (v : ℕ) → IsCalm h r → IsCalm h (set_word r 4 v)
calm_prio h r v c = record {
  shape = c.shape;
  len = length-set r.words 4 v ∙ c.len;
  mdlck = other r.words 4 16 v (λ e. absurd (omega arith)) ∙ c.mdlck;
  mdlckh = other r.words 4 17 v (λ e. absurd (omega arith)) ∙ c.mdlckh;
  mdcfglck = other r.words 4 18 v (λ e. absurd (omega arith)) ∙ c.mdcfglck;
  entrylck = other r.words 4 19 v (λ e. absurd (omega arith)) ∙ c.entrylck;
  hwcfg0 = other r.words 4 2 v (λ e. absurd (omega arith)) ∙ c.hwcfg0;
  enables = λ f s l. let x : get_or (set r.words 4 v) (1024 + 8 * s) 0 ≡ get_or r.words (1024 + 8 * s) 0 = other r.words 4 (1024 + 8 * s) v (λ e. absurd (omega arith)) in let y = c.enables f s l in omega arith;
}

-- the word of HWCFG2
abbrev pub prio_word : Registers → ℕ → ℕ
prio_word r g = merged (guarded_bits r 4) (word_at r 4) (ruled_word (fields_of r.shape Hwcfg2) (word_at r 4) g)

pub prio_write : (r : Registers) (g : ℕ) → guarded_write r (pair 4 g) ≡ set_word r 4 (prio_word r g)
prio_write r g = refl

pub merged_low : (k keep old new : ℕ) → keep % 2 ^ k ≡ 0 → bit_not w32 keep % 2 ^ k ≡ 2 ^ k - 1 → merged keep old new % 2 ^ k ≡ new % 2 ^ k
merged_low k keep old new e f =
    let a : bit_and old keep % 2 ^ k ≡ 0 = and_mod old keep k ∙ (ap (bit_and (old % 2 ^ k)) e ∙ omega (arith, and_le_r (old % 2 ^ k) 0)) in
    let b : bit_and new (bit_not w32 keep) % 2 ^ k ≡ new % 2 ^ k % 2 ^ k = and_mod new (bit_not w32 keep) k ∙ (ap (bit_and (new % 2 ^ k)) f ∙ and_mask (new % 2 ^ k) k) in
    or_mod (bit_and old keep) (bit_and new (bit_not w32 keep)) k ∙ (ap (λ x. bit_or x (bit_and new (bit_not w32 keep) % 2 ^ k)) a ∙ (or_zero_l _ ∙ (b ∙ mod-eq_of_lt (omega (arith, pow_pos k)))))

pub prio_kept : (r : Registers) → is_prient_prog r ≡ true → guarded_bits r 4 ≡ 4294901760
prio_kept r e = rw e refl

-- The number of priority entries is the one that was written where its write isn't locked.
pub prio_low : (r : Registers) (g : ℕ) → is_prient_prog r ≡ true → g < 2 ^ 16 → bits_of 0 16 (prio_word r g) ≡ g
prio_low r g t small =
    let k = prio_kept r t in
    let low : prio_word r g % 2 ^ 16 ≡ ruled_word (fields_of r.shape Hwcfg2) (word_at r 4) g % 2 ^ 16 =
    ap (λ x. merged x (word_at r 4) (ruled_word (fields_of r.shape Hwcfg2) (word_at r 4) g) % 2 ^ 16) k
    ∙ merged_low 16 4294901760 (word_at r 4) (ruled_word (fields_of r.shape Hwcfg2) (word_at r 4) g) refl refl in
    let new : ruled_word (fields_of r.shape Hwcfg2) (word_at r 4) g % 2 ^ 16 ≡ g = omega arith in
    let one : prio_word r g / 2 ^ 0 ≡ prio_word r g = omega arith in
    ap (λ x. x % 2 ^ 16) one ∙ (low ∙ new)

pub prio_read : (h : Shape) (r : Registers) (g : ℕ) → IsPolicyShape h → IsCalm h r → g < 2 ^ 16 → bits_of 0 16 (prio_word r g) ≡ g
prio_read h r g good c small = prio_low r g (reset_not_enabled h (word_at r 2) good c.hwcfg0).1 small

-- ---- the last write: the enable bit

abbrev pub enable_word : Registers → ℕ
enable_word r = merged (guarded_bits r 2) (word_at r 2) (ruled_word (fields_of r.shape Hwcfg0) (word_at r 2) 1)

pub enable_last : (r : Registers) → guarded_write r (pair 2 1) ≡ set_word r 2 (enable_word r)
enable_last r = refl

pub enable_kept : (r : Registers) → is_enabled r ≡ false → is_prient_prog r ≡ true → r.shape.mdcfg ≡ 0 → guarded_bits r 2 ≡ 16654334
enable_kept r e p f = rw (e, p, f) refl

enable_ruled : (r : Registers) → word_at r 2 % 2 ≡ 0 → r.shape.mdcfg ≡ 0 → ruled_word (fields_of r.shape Hwcfg0) (word_at r 2) 1 % 2 ^ 1 ≡ 1
enable_ruled r e f =
    let a : bit_or (word_at r 2 / 2 ^ 0 % 2 ^ 1) (1 / 2 ^ 0 % 2 ^ 1) ≡ 1 = let z : word_at r 2 / 2 ^ 0 % 2 ^ 1 ≡ 0 = omega arith in rw z refl in
    rw f (omega (arith, a))

pub enabled_after : (h : Shape) (r : Registers) → IsPolicyShape h → IsCalm h r → has_bit (enable_word r) 0 ≡ true
enabled_after h r good c =
    let bits = reset_not_enabled h (word_at r 2) good c.hwcfg0 in
    let f : r.shape.mdcfg ≡ 0 = ap (λ (x : Shape). x.mdcfg) c.shape ∙ good.mdcfg in
    let k = enable_kept r bits.0 bits.1 f in
    let low : enable_word r % 2 ^ 1 ≡ ruled_word (fields_of r.shape Hwcfg0) (word_at r 2) 1 % 2 ^ 1 =
    ap (λ x. merged x (word_at r 2) (ruled_word (fields_of r.shape Hwcfg0) (word_at r 2) 1) % 2 ^ 1) k
    ∙ merged_low 1 16654334 (word_at r 2) (ruled_word (fields_of r.shape Hwcfg0) (word_at r 2) 1) refl refl in
    let one : enable_word r / 2 ^ 0 % 2 ≡ 1 = let q = low ∙ enable_ruled r bits.2 f in omega arith in
    bit_is (enable_word r) 0 1 one
