-- The bits of a register's fields, as a number, are those that lie in a field.
use Rattle.std.proofs.Common.{◌≡◌, ℕ, ◌+◌, ◌-◌, ◌*◌, ◌^◌, ◌<◌, ◌≤◌, ◌&&◌, ◌||◌, Bool, true, false, eqb, ltb, leb, List, [], ◌∷◌, sum_by, arith, refl, sym, ap, ◌∙◌, ⊎_elim}
use Rattle.std.specs.Prelude.{if◌then◌else◌}
use Rattle.std.specs.Int.{bit_at}
use Rattle.std.specs.List.{list_any}
use Rattle.std.proofs.Math.Nat.{mul-sub, mul_comm}
use Rattle.std.proofs.lemmas.List.Sums.{sum_by-cons}
use Rattle.std.proofs.lemmas.Nat.{pow-add, pow_pos}
use Rattle.std.proofs.lemmas.Nat.Bits.{bit_at-zero, bit_at_mask_inside, bit_at_mask_below, bit_at_mask_above, bit_at_cat_low, bit_at_cat_high}
use Rattle.std.proofs.lemmas.Bool.{cases_lt, lt-ltb, le-ltb, le-leb, lt-leb, and_left, and_right, or_from}
use Rattle.event_words.specs.declared.shape.Shape.{Shape}
use Rattle.event_words.specs.declared.register.Field.{Field}
use Rattle.event_words.specs.declared.register.Register.{Register}
use Rattle.event_words.specs.Registers.{fields_of, has_bit}
use Rattle.event_words.specs.Guards.{bits_from, field_bits, read_only_bits, whole, is_in, is_field_bit, is_read_only_bit, is_read_only}
use Rattle.event_words.specs.Apart.{AreApartFrom}
use Rattle.event_words.proofs.Apart.{sum_multiple}
use Rattle.event_words.proofs.WellFormedLemmas.{fields_apart}

digit : (n i d : ℕ) (b : Bool) → bit_at n i ≡ d → (eqb d 1 ≡ b) → has_bit n i ≡ b
digit n i d b e f = ap (λ k. eqb k 1) e ∙ f

run_of_bits : (low width : ℕ) → bits_from low width ≡ 2 ^ (low + width) - 2 ^ low
run_of_bits low width =
    let p = pow-add 2 low width in
    let s = mul-sub (2 ^ low) (2 ^ width) 1 in
    let c = mul_comm (2 ^ width - 1) (2 ^ low) in
    let one : 2 ^ low * 1 ≡ 2 ^ low = omega arith in
    c ∙ (s ∙ rw (one, p) refl)

-- the bits of a run
pub bits_from_bit : (low width i : ℕ) → has_bit (bits_from low width) i ≡ (leb low i && ltb i (low + width))
bits_from_bit low width i = ap (λ n. has_bit n i) (run_of_bits low width) ∙ ⊎_elim
    (λ (l : i < low). digit _ i 0 _ (bit_at_mask_below low (low + width) i l) (sym (and_left _ _ (lt-leb low i l))))
    (λ (l : low ≤ i). ⊎_elim
    (λ (m : i < low + width). digit _ i 1 _ (bit_at_mask_inside low (low + width) i l m)
    (sym (ap (λ b. b && ltb i (low + width)) (le-leb low i l) ∙ lt-ltb i (low + width) m)))
    (λ (m : low + width ≤ i). digit _ i 0 _ (bit_at_mask_above low (low + width) i m) (sym (and_right _ _ (le-ltb i (low + width) m))))
    (cases_lt i (low + width)))
    (cases_lt i low)

-- ---- the fields of a choice

abbrev chosen_number : (Field → Bool) → Field → ℕ
chosen_number choose f = if choose f then 2 ^ f.width - 1 else 0

abbrev chosen_bits : (Field → Bool) → Field → ℕ
chosen_bits choose f = if choose f then field_bits f else 0

abbrev is_in_chosen : (Field → Bool) → ℕ → Field → Bool
is_in_chosen choose i f = choose f && is_in i f

chosen_placed : (choose : Field → Bool) (f : Field) → chosen_bits choose f ≡ chosen_number choose f * 2 ^ f.low
chosen_placed choose f = by (choose f)
  where
    by : (b : Bool) → (if b then field_bits f else 0) ≡ (if b then 2 ^ f.width - 1 else 0) * 2 ^ f.low
    by true = refl
    by false = omega arith

same_sum : (p q : Field → ℕ) (fs : List Field) → ((f : Field) → p f ≡ q f) → sum_by p fs ≡ sum_by q fs
same_sum p q [] e = refl
same_sum p q (f ∷ fs) e =
    let a = sum_by-cons p f fs in
    let b = sum_by-cons q f fs in
    let c = same_sum p q fs e in
    let d = e f in
    omega arith

chosen_multiple : (choose : Field → Bool) (base : ℕ) (fs : List Field) → AreApartFrom base fs → (a : ℕ) × (sum_by (chosen_bits choose) fs ≡ a * 2 ^ base)
chosen_multiple choose base fs h =
    let m = sum_multiple (chosen_number choose) base fs h in
    (m.0, same_sum (chosen_bits choose) (λ f. chosen_number choose f * 2 ^ f.low) fs (chosen_placed choose) ∙ m.1)

chosen_small : (choose : Field → Bool) (f : Field) → chosen_bits choose f < 2 ^ (f.low + f.width)
chosen_small choose f = by (choose f)
  where
    by : (b : Bool) → (if b then field_bits f else 0) < 2 ^ (f.low + f.width)
    by true =
        let p = pow_pos (f.low + f.width) in
        let q = pow_pos f.low in
        let e = run_of_bits f.low f.width in
        omega arith
    by false = pow_pos (f.low + f.width)

head_bit : (choose : Field → Bool) (i : ℕ) (f : Field) → has_bit (chosen_bits choose f) i ≡ is_in_chosen choose i f
head_bit choose i f = by (choose f)
  where
    by : (b : Bool) → has_bit (if b then field_bits f else 0) i ≡ (b && is_in i f)
    by true = bits_from_bit f.low f.width i
    by false = digit 0 i 0 false (bit_at-zero i) refl

none_below : (choose : Field → Bool) (base i : ℕ) (fs : List Field) → AreApartFrom base fs → i < base → list_any (is_in_chosen choose i) fs ≡ false
none_below choose base i [] h l = refl
none_below choose base i (f ∷ fs) h l =
    or_from _ _ (and_right (choose f) _ (and_left _ _ (lt-leb f.low i (omega arith)))) (none_below choose (f.low + f.width) i fs h.1 (omega arith))

or_false : (a b : Bool) → b ≡ false → (a || b) ≡ a
or_false true b e = refl
or_false false b e = e

chosen_bit : (choose : Field → Bool) (base i : ℕ) (fs : List Field) → AreApartFrom base fs → has_bit (sum_by (chosen_bits choose) fs) i ≡ list_any (is_in_chosen choose i) fs
chosen_bit choose base i [] h = digit 0 i 0 false (bit_at-zero i) refl
chosen_bit choose base i (f ∷ fs) h =
    let k = f.low + f.width in
    let rest = chosen_multiple choose (f.low + f.width) fs h.1 in
    let cons = sum_by-cons (chosen_bits choose) f fs in
    let e : sum_by (chosen_bits choose) (f ∷ fs) ≡ rest.0 * 2 ^ (f.low + f.width) + chosen_bits choose f = omega (arith, rest.1) in
    ap (λ n. has_bit n i) e ∙ ⊎_elim
    (λ (l : i < f.low + f.width).
    ap (λ d. eqb d 1) (bit_at_cat_low rest.0 (f.low + f.width) (chosen_bits choose f) i l)
    ∙ (head_bit choose i f ∙ sym (or_false _ _ (none_below choose (f.low + f.width) i fs h.1 l))))
    (λ (l : f.low + f.width ≤ i).
    let z : sum_by (chosen_bits choose) fs ≡ rest.0 * 2 ^ (f.low + f.width) + 0 = omega (arith, rest.1) in
    let out : is_in_chosen choose i f ≡ false = and_right (choose f) _ (and_right _ _ (le-ltb i (f.low + f.width) l)) in
    ap (λ d. eqb d 1) (bit_at_cat_high rest.0 (f.low + f.width) (chosen_bits choose f) i (chosen_small choose f) l
    ∙ sym (bit_at_cat_high rest.0 (f.low + f.width) 0 i (pow_pos (f.low + f.width)) l))
    ∙ (ap (λ n. has_bit n i) (sym z) ∙ (chosen_bit choose (f.low + f.width) i fs h.1 ∙ sym (ap (λ b. b || list_any (is_in_chosen choose i) fs) out))))
    (cases_lt i (f.low + f.width))

-- Bit i of all bits of a register's fields is 1 exactly where a field has it.
pub whole_bit : (h : Shape) (q : Register) (i : ℕ) → has_bit (whole h q) i ≡ is_field_bit h q i
whole_bit h q i = chosen_bit (λ f. true) 0 i (fields_of h q) (fields_apart h q)

-- So it is with the read-only fields.
pub read_only_bit : (h : Shape) (q : Register) (i : ℕ) → has_bit (sum_by read_only_bits (fields_of h q)) i ≡ is_read_only_bit h q i
read_only_bit h q i = chosen_bit (λ f. is_read_only f.rule) 0 i (fields_of h q) (fields_apart h q)
