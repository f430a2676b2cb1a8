-- The entries of a map whose look-ups are known are in ascending order those that have a value.
use Rattle.std.proofs.Common.{◌≡◌, ℕ, zero, suc, ◌+◌, ◌<◌, ◌≤◌, Bool, true, false, ◌==◌, ltb, cond, List, [], ◌∷◌, Option, None, Some, map, filter, arith, refl, sym, ap, ◌∙◌, ⊎_elim}
use Rattle.std.specs.List.{range_with_len, AllByRecursion}
use Rattle.std.specs.List.Sorted.{IsStrictlySortedBy}
use Rattle.std.specs.Ordering.{nat_cmp}
use Rattle.std.specs.declared.cmp.Ordering.TheVariants.{Less, Equal, Greater}
use Rattle.std.specs.BTreeMap.{is_at}
use Rattle.std.specs.Map.{keys_of, lookup}
use Rattle.std.specs.Cmp.{nat_cmp_is}
use Rattle.std.proofs.lemmas.Cmp.{nat_cmp_total}
use Rattle.std.proofs.lemmas.Map.{lookup-none}
use Rattle.std.proofs.lemmas.Map.Entries.{lookup_head, lookup_tail, none_below_head}
use Rattle.std.proofs.lemmas.Map.Keys.{sorted_head, sorted_tail}
use Rattle.std.proofs.lemmas.Bool.{cases_eq}
use Rattle.std.proofs.lemmas.Bool.Decides.{nat_tests}
use Rattle.update_planner.proofs.Puts.{at_key}

-- a value where a test passes
abbrev pub held : Bool → ℕ → Option ℕ
held true x = Some x
held false x = None

abbrev pub with_value : (ℕ → ℕ) → ℕ → ℕ × ℕ
with_value v i = (i, v i)

abbrev pub BeginsFrom : ℕ → List (ℕ × ℕ) → Type 0
BeginsFrom a [] = Unit {0}
BeginsFrom a (e ∷ es) = a ≤ e.0

-- the entries have these values from an index on
abbrev pub Finds : (ℕ → Bool) → (ℕ → ℕ) → ℕ → List (ℕ × ℕ) → Type 0
Finds p v a es = (q : ℕ) → a ≤ q → lookup (is_at (nat_cmp q)) es ≡ held (p q) (v q)

abbrev pub IsOver : (ℕ → Bool) → ℕ → Type 0
IsOver p n = (q : ℕ) → n ≤ q → p q ≡ false

same_key : (q k : ℕ) → q ≡ k → is_at (nat_cmp q) k ≡ true
same_key q k e = at_key q k ∙ search (nat_tests, arith)

other_key : (q k : ℕ) → (q ≡ k → ⊥) → is_at (nat_cmp q) k ≡ false
other_key q k ne = at_key q k ∙ search (nat_tests, arith)

first_found : (q : ℕ) (e : ℕ × ℕ) (es : List (ℕ × ℕ)) → q ≡ e.0 → lookup (is_at (nat_cmp q)) (e ∷ es) ≡ Some e.1
first_found q e es h = lookup_head (is_at (nat_cmp q)) e es (same_key q e.0 h)

none_before : (q : ℕ) (e : ℕ × ℕ) (es : List (ℕ × ℕ)) → IsStrictlySortedBy nat_cmp (keys_of (e ∷ es)) → q < e.0
    → lookup (is_at (nat_cmp q)) (e ∷ es) ≡ None
none_before q e es sorted l = lookup-none (is_at (nat_cmp q)) (e ∷ es) (none_below_head nat_cmp_total q e es sorted (sym (nat_cmp_is q e.0 Less l)))

less_says : (a b : Bool) (x y : ℕ) → ltb x y ≡ a → (x == y) ≡ b → cond a Less (cond b Equal Greater) ≡ Less → x < y
less_says true b x y s t h = grind (arith, nat_tests)
less_says false true x y s t h = absurd (cc)
less_says false false x y s t h = absurd (cc)

tail_begins : (k : ℕ) (es : List (ℕ × ℕ)) → AllByRecursion (λ y. nat_cmp k y ≡ Less) (keys_of es) → BeginsFrom (k + 1) es
tail_begins k [] all = tt
tail_begins k (e ∷ es) all = let l = less_says (ltb k e.0) (k == e.0) k e.0 refl refl all.0 in omega arith

-- an index without a value is never a key
passed : (p : ℕ → Bool) (v : ℕ → ℕ) (a : ℕ) (es : List (ℕ × ℕ)) → BeginsFrom a es → Finds p v a es → p a ≡ false → BeginsFrom (a + 1) es
passed p v a [] begins finds absent = tt
passed p v a (e ∷ es) begins finds absent = ⊎_elim
    (λ (h : a ≡ e.0). let f = first_found a e es h in let g = finds a (omega arith) ∙ ap (λ b. held b (v a)) absent in absurd (cc))
    (λ (ne : a ≡ e.0 → ⊥). omega arith)
    (cases_eq a e.0)

later : (p : ℕ → Bool) (v : ℕ → ℕ) (a : ℕ) (es : List (ℕ × ℕ)) → Finds p v a es → Finds p v (a + 1) es
later p v a es finds q l = finds q (omega arith)

rest_finds : (p : ℕ → Bool) (v : ℕ → ℕ) (a : ℕ) (e : ℕ × ℕ) (es : List (ℕ × ℕ)) → a ≡ e.0 → Finds p v a (e ∷ es) → Finds p v (a + 1) es
rest_finds p v a e es h finds q l = sym (lookup_tail (is_at (nat_cmp q)) e es (other_key q e.0 (λ n. absurd (omega arith)))) ∙ finds q (omega arith)

abbrev pub pairs_from : (ℕ → Bool) → (ℕ → ℕ) → ℕ → ℕ → List (ℕ × ℕ)
pairs_from p v a n = map (with_value v) (filter p (range_with_len a n))

-- entries that have these values from an index on are the pairs of the n indexes from there on
abbrev ArePairs : (ℕ → Bool) → (ℕ → ℕ) → ℕ → ℕ → Type 0
ArePairs p v a n = (es : List (ℕ × ℕ)) → IsStrictlySortedBy nat_cmp (keys_of es) → BeginsFrom a es → Finds p v a es → es ≡ pairs_from p v a n

over_next : (p : ℕ → Bool) (a n : ℕ) → IsOver p (a + suc n) → IsOver p ((a + 1) + n)
over_next p a n over q l = over q (omega arith)

one_more : (p : ℕ → Bool) (v : ℕ → ℕ) (a n : ℕ) (b : Bool) → p a ≡ b
    → pairs_from p v a (suc n) ≡ cond b (with_value v a ∷ pairs_from p v (a + 1) n) (pairs_from p v (a + 1) n)
one_more p v a n true e = rw e refl
one_more p v a n false e = rw e refl

first_is : (p : ℕ → Bool) (v : ℕ → ℕ) (a : ℕ) (e : ℕ × ℕ) (es : List (ℕ × ℕ)) → IsStrictlySortedBy nat_cmp (keys_of (e ∷ es))
    → BeginsFrom a (e ∷ es) → Finds p v a (e ∷ es) → p a ≡ true → (a ≡ e.0) × (v a ≡ e.1)
first_is p v a e es sorted begins finds present =
    let g : lookup (is_at (nat_cmp a)) (e ∷ es) ≡ Some (v a) = finds a (omega arith) ∙ ap (λ b. held b (v a)) present in
    ⊎_elim
    (λ (h : a ≡ e.0). let f = first_found a e es h in (h, let q : Some (v a) ≡ Some e.1 = sym g ∙ f in cc))
    (λ (ne : a ≡ e.0 → ⊥). let n = none_before a e es sorted (omega arith) in absurd (let q : None ≡ Some (v a) = sym n ∙ g in cc))
    (cases_eq a e.0)

pair_is : (e : ℕ × ℕ) (a x : ℕ) → a ≡ e.0 → x ≡ e.1 → e ≡ (a, x)
pair_is (k, y) a x p q = cc

pub entries_are : (p : ℕ → Bool) (v : ℕ → ℕ) (a n : ℕ) (es : List (ℕ × ℕ)) → IsStrictlySortedBy nat_cmp (keys_of es) → BeginsFrom a es
    → Finds p v a es → IsOver p (a + n) → es ≡ pairs_from p v a n
entries_are p v a zero [] sorted begins finds over = refl
entries_are p v a zero (e ∷ es) sorted begins finds over =
    let absent : p e.0 ≡ false = over e.0 (omega arith) in
    let g : lookup (is_at (nat_cmp e.0)) (e ∷ es) ≡ None = finds e.0 begins ∙ ap (λ b. held b (v e.0)) absent in
    let f = first_found e.0 e es refl in
    absurd (cc)
entries_are p v a (suc n) es sorted begins finds over =
    by_test (p a) refl es sorted begins finds (λ xs s b f. entries_are p v (a + 1) n xs s b f (over_next p a n over))
  where
    by_test : (b : Bool) → p a ≡ b → (es : List (ℕ × ℕ)) → IsStrictlySortedBy nat_cmp (keys_of es) → BeginsFrom a es → Finds p v a es
        → ArePairs p v (a + 1) n
        → es ≡ pairs_from p v a (suc n)
    by_test false absent es sorted begins finds ih = ih es sorted (passed p v a es begins finds absent) (later p v a es finds) ∙ sym (one_more p v a n false absent)
    by_test true present [] sorted begins finds ih = absurd (let g : None ≡ Some (v a) = finds a (omega arith) ∙ ap (λ b. held b (v a)) present in cc)
    by_test true present (e ∷ es) sorted begins finds ih =
        let f = first_is p v a e es sorted begins finds present in
        let t = tail_begins e.0 es (sorted_head nat_cmp e.0 (keys_of es) sorted) in
        let begins : BeginsFrom (a + 1) es = rw f.0 t in
        let rest = ih es (sorted_tail nat_cmp e.0 (keys_of es) sorted) begins (rest_finds p v a e es f.0 finds) in
        let first : e ≡ with_value v a = pair_is e a (v a) f.0 f.1 in
        ap (λ x. x ∷ es) first ∙ (ap (λ xs. with_value v a ∷ xs) rest ∙ sym (one_more p v a n true present))
