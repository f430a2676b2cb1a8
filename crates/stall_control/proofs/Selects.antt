-- Whether two masks have a bit in common.
use Rattle.std.proofs.Common.{◌≡◌, ℕ, suc, zero, ◌+◌, ◌/◌, ◌<◌, ◌≤◌, ◌==◌, ◌&&◌, Bool, true, false, not, ltb, List, [], ◌∷◌, bit_and, arith, refl, sym, ap, ◌∙◌, subst, inl, inr}
use Rattle.std.specs.List.{range_with_len, list_any}
use Rattle.std.specs.Int.{bit_at}
use Rattle.std.proofs.lemmas.Bool.{or_parts}
use Rattle.std.proofs.lemmas.Bool.Decides.{eqb_tells, nat_tests}
use Rattle.std.proofs.lemmas.Nat.Bits.{bit_at_and, bit_at-lt, bit_at-suc, bit_at-zero, same_from_bits}
use Rattle.std.proofs.Math.Bool.{and-false}
use Rattle.event_words.specs.Registers.{Registers, has_bit}
use Rattle.event_words.specs.Domains.{is_known, is_in_table, is_associated}
use Rattle.event_words.specs.Stalls.{is_selected_domain, is_selected}
use Rattle.event_words.proofs.Cases.{by_test, by_less}
use Rattle.event_words.proofs.ListItems.{any_alike}
use Rattle.event_words.proofs.Ranges.{none_any}
use Rattle.srcmd_formats.proofs.Masks.{one_bit, zero_bit}
use Rattle.stall_control.specs.Selections.{is_among}

is_one : (k : ℕ) → (k == 1) ≡ true → k ≡ 1
is_one k e = elim (eqb_tells k 1) [
  | inl q ↦ q.1
  | inr q ↦ absurd (let z : true ≡ false = sym e ∙ q.0 in cc)
]

not_one : (k : ℕ) → (k == 1) ≡ false → k < 2 → k ≡ 0
not_one k e l = elim (eqb_tells k 1) [
  | inl q ↦ absurd (let z : true ≡ false = sym q.0 ∙ e in cc)
  | inr q ↦ (let n = q.1 in omega arith)
]

both_bits : (a b m : ℕ) → has_bit (bit_and a b) m ≡ (has_bit a m && has_bit b m)
both_bits a b m =
    let e = bit_at_and a b m in
    let la = bit_at-lt a m in
    let lb = bit_at-lt b m in
    by_test (has_bit a m) _
    (λ t. let x = is_one (bit_at a m) t in by_test (has_bit b m) _
    (λ u. let y = is_one (bit_at b m) u in one_bit (bit_at (bit_and a b) m) (omega arith) ∙ sym (ap (λ k. k && has_bit b m) t ∙ u))
    (λ u. let y = not_one (bit_at b m) u lb in zero_bit (bit_at (bit_and a b) m) (omega arith) ∙ sym (ap (λ k. k && has_bit b m) t ∙ u)))
    (λ t. let x = not_one (bit_at a m) t la in zero_bit (bit_at (bit_and a b) m) (omega arith) ∙ sym (ap (λ k. k && has_bit b m) t))

none_in : (p : ℕ → Bool) (a n m : ℕ) → list_any p (range_with_len a n) ≡ false → a ≤ m → m < a + n → p m ≡ false
none_in p a zero m e l h = absurd (omega arith)
none_in p a (suc n) m e l h = elim (eqb_tells a m) [
  | inl q ↦ subst (λ k. p k ≡ false) q.1 (or_parts (p a) (list_any p (range_with_len (a + 1) n)) e).0
  | inr q ↦ none_in p (a + 1) n m (or_parts (p a) (list_any p (range_with_len (a + 1) n)) e).1 (let z = q.1 in omega arith) (omega arith)
]

some_bit : (x n : ℕ) → ((m : ℕ) → n ≤ m → bit_at x m ≡ 0) → not (x == 0) ≡ list_any (has_bit x) (range_with_len 0 n)
some_bit x n h = by_test (list_any (has_bit x) (range_with_len 0 n)) _
    (λ t. elim (eqb_tells x 0) [
      | inl q ↦ absurd (let z : list_any (has_bit x) (range_with_len 0 n) ≡ false = none_any (has_bit x) 0 n (λ m a b. zero_bit (bit_at x m) (ap (λ k. bit_at k m) q.1 ∙ bit_at-zero m)) in let y : true ≡ false = sym t ∙ z in cc)
      | inr q ↦ ap not q.0 ∙ sym t
    ])
    (λ t.
    let z : x ≡ 0 = same_from_bits x 0 (λ m. by_less m n _
    (λ l. not_one (bit_at x m) (none_in (has_bit x) 0 n m t (omega arith) (omega arith)) (bit_at-lt x m) ∙ sym (bit_at-zero m))
    (λ l. h m l ∙ sym (bit_at-zero m))) in
    elim (eqb_tells x 0) [
      | inl q ↦ ap not q.0 ∙ sym t
      | inr q ↦ absurd (q.1 z)
    ])

-- a mask has a domain of the requester's where the two masks have a bit in common
pub among_by : (r : Registers) (domains s mask : ℕ) → ((m : ℕ) → has_bit mask m ≡ is_associated r s m) → not (bit_and domains mask == 0) ≡ is_among r domains s
among_by r domains s mask h =
    let n = r.shape.domains in
    some_bit (bit_and domains mask) n (λ m l.
    let e = bit_at_and domains mask m in
    let f : has_bit mask m ≡ false = h m ∙ past r s m n (omega arith) refl in
    let z = not_one (bit_at mask m) f (bit_at-lt mask m) in omega arith)
    ∙ any_alike (has_bit (bit_and domains mask)) (λ m. has_bit domains m && is_associated r s m) (λ m.
    both_bits domains mask m ∙ ap (λ k. has_bit domains m && k) (h m)) (range_with_len 0 n)
  where
    past : (r : Registers) (s m n : ℕ) → n ≤ m → n ≡ r.shape.domains → is_associated r s m ≡ false
    past r s m n l e = let z : ltb m r.shape.domains ≡ false = grind (arith, nat_tests) in ap (λ k. is_known r s && (k && is_in_table r s m)) z ∙ and-false (is_known r s)

-- the mask of a write of MDSTALL has the domains that it selects
pub selection_bit : (r : Registers) (value pair m : ℕ) → has_bit pair (m + 1) ≡ is_selected_domain r value m → has_bit (pair / 2) m ≡ is_selected_domain r value m
selection_bit r value pair m h =
    let e : suc m ≡ m + 1 = omega arith in
    ap (λ k. k == 1) (sym (bit_at-suc pair m) ∙ ap (bit_at pair) e) ∙ h

-- so a requester is among them where it is selected
pub among_selected : (r : Registers) (value domains s : ℕ) → ((m : ℕ) → has_bit domains m ≡ is_selected_domain r value m) → is_among r domains s ≡ is_selected r value s
among_selected r value domains s h = any_alike _ _ (λ m. ap (λ k. k && is_associated r s m) (h m)) (range_with_len 0 r.shape.domains)
