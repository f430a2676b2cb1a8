-- The names of a printed section: `s` and a slot.
use Rattle.std.proofs.Common.{◌≡◌, ℕ, zero, suc, ◌^◌, ◌<◌, ◌≤◌, Bool, true, false, if◌then◌else◌, List, [], ◌∷◌, ◌++◌, None, Some, Ok, Err, length, codes, is_some, refl, ap, sym, ◌∙◌, inl, inr, arith, length-append}
use Rattle.std.proofs.lemmas.Bool.{cases_lt, and_from}
use Rattle.std.proofs.lemmas.Fmt.{decimal_is_IsNumeral, decimal_injective, length-decimal-le}
use Rattle.std.proofs.lemmas.Slice.Eq.{bytes_eq-Decides}
use Rattle.std.specs.Fmt.{decimal}
use Rattle.std.specs.Str.{bytes_eq}
use Rattle.script_reader.specs.Codes.{taken_name, not_a_name}
use Rattle.script_reader.specs.Names.{is_name, known, slot_of, slot_at, with_name}
use Rattle.script_reader.proofs.Slots.{push_hit, push_miss}
use Rattle.script_reader.proofs.Written.{IsWord, is_at_most, named_digits, decimal_writes}

abbrev pub slot_name : ℕ → List ℕ
slot_name i = codes "s" ++ decimal i

-- the names of the first submissions
abbrev pub slot_names : ℕ → List (List ℕ)
slot_names zero = []
slot_names (suc k) = slot_names k ++ slot_name k ∷ []

pub length_slot_names : (k : ℕ) → length (slot_names k) ≡ k
length_slot_names zero = refl
length_slot_names (suc k) = length-append (slot_names k) (slot_name k ∷ []) ∙ omega (arith, length_slot_names k)

small : (i : ℕ) → i < 10 ^ 7 → i < 2 ^ 64
small i h = omega (arith, h)

pub slot_word : (i : ℕ) → i < 10 ^ 7 → IsWord (slot_name i)
slot_word i h = record { some = omega arith; solid = (decimal_writes i (small i h)).word.solid }

pub slot_is_name : (i : ℕ) → i < 10 ^ 7 → is_name (slot_name i) ≡ true
unfolding is_name
slot_is_name i h =
    let short : length (decimal i) ≤ 7 = length-decimal-le 7 i (omega arith) h (small i h) in
    and_from _ _ (and_from _ _ (is_at_most 1 (length (slot_name i)) (omega arith)) (is_at_most (length (slot_name i)) 8 (omega (arith, short)))) (named_digits (decimal i) (decimal_is_IsNumeral i (small i h)).0.1)

-- ---- where the names stand

rest_of : (x : ℕ) (xs ys : List ℕ) → x ∷ xs ≡ x ∷ ys → xs ≡ ys
rest_of x xs ys e = cc

apart : (i k : ℕ) → i < 10 ^ 7 → k < 10 ^ 7 → (i ≡ k → ⊥) → bytes_eq (slot_name i) (slot_name k) ≡ false
apart i k hi hk other = by (bytes_eq (slot_name i) (slot_name k)) refl
  where
    by : (b : Bool) → bytes_eq (slot_name i) (slot_name k) ≡ b → b ≡ false
    by true e = absurd (other (decimal_injective i k (small i hi) (small k hk) (rest_of 115 (decimal i) (decimal k) ((bytes_eq-Decides (slot_name i) (slot_name k)).0 e))))
    by false e = refl

-- a name that isn't given yet
pub slot_absent : (k i : ℕ) → k ≤ i → i < 10 ^ 7 → slot_of (slot_names k) (slot_name i) ≡ None
slot_absent zero i below h = refl
slot_absent (suc k) i below h =
    push_miss (bytes_eq (slot_name i)) (slot_names k) (slot_name k) (apart i k h (omega (arith, below, h)) (λ e. omega (arith, e, below))) ∙ slot_absent k i (omega (arith, below)) h

pub slot_present : (k i : ℕ) → i < k → k ≤ 10 ^ 7 → slot_of (slot_names k) (slot_name i) ≡ Some i
slot_present zero i below h = absurd (omega (arith, below))
slot_present (suc k) i below h =
    elim (cases_lt i k) [
      | inl before ↦ push_miss (bytes_eq (slot_name i)) (slot_names k) (slot_name k) (apart i k (omega (arith, before, h)) (omega (arith, h)) (λ e. omega (arith, e, before))) ∙ slot_present k i before (omega (arith, h))
      | inr after ↦
          let last : i ≡ k = omega (arith, below, after) in
          push_hit (bytes_eq (slot_name i)) (slot_names k) (slot_name k) (slot_absent k i (omega (arith, last)) (omega (arith, last, h))) (ap (λ j. bytes_eq (slot_name i) (slot_name j)) (sym last) ∙ (bytes_eq-Decides (slot_name i) (slot_name i)).1 refl)
          ∙ ap Some (length_slot_names k ∙ sym last)
    ]

-- ---- what reading them gives

pub slot_read : (k i : ℕ) → i < k → k ≤ 10 ^ 7 → slot_at (slot_names k) (slot_name i) ≡ Ok i
unfolding slot_at
slot_read k i below h = ap (λ b. if b then known (slot_of (slot_names k) (slot_name i)) else Err not_a_name) (slot_is_name i (omega (arith, below, h))) ∙ ap known (slot_present k i below h)

pub slot_given : (k : ℕ) → k < 10 ^ 7 → with_name (slot_names k) (slot_name k) ≡ Ok (slot_names (suc k))
unfolding with_name
slot_given k h =
    ap (λ b. if b then (if is_some (slot_of (slot_names k) (slot_name k)) then Err taken_name else Ok (slot_names (suc k))) else Err not_a_name) (slot_is_name k h)
    ∙ ap (λ o. if is_some o then Err taken_name else Ok (slot_names (suc k))) (slot_absent k k (omega arith) h)
