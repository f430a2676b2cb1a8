-- What words stand for, as one of them changes or a wide submission is added.
use Rattle.std.proofs.Common.{◌≡◌, ℕ, suc, zero, ◌+◌, ◌-◌, ◌*◌, ◌^◌, ◌/◌, ◌%◌, ◌<◌, ◌≤◌, ◌==◌, ◌&&◌, true, false, cond, leb, List, [], ◌∷◌, ◌++◌, length, map, get_or, set, Some, None, refl, ap, sym, subst, ◌∙◌, inl, inr, arith}
use Rattle.std.specs.Prelude.{nat_lt, IfSome, Option, option_map, option_and_then, if◌then◌else◌}
use Rattle.std.specs.List.{AllByRecursion}
use Rattle.std.proofs.lemmas.Bool.Decides.{nat_tests, eqb_tells}
use Rattle.std.proofs.Math.Bool.{and-false}
use Rattle.std.proofs.lemmas.List.{map-set, get_or_push, get_or_append_left, get_or-map}
use Rattle.event_words.specs.Valid.{IsValidAccess}
use Rattle.event_words.specs.declared.access.Access.{Access}
use Rattle.event_words.specs.declared.access.Kind.{Kind}
use Rattle.event_words.specs.declared.event.Event.{Event}
use Rattle.event_words.specs.declared.event.Event.TheVariants.{Submit}
use Rattle.event_words.specs.Word.{event_of_word, event_with, kind_at}
use Rattle.event_words.proofs.Cases.{by_test}
use Rattle.unit_core.specs.declared.kept.Kept.{Kept}
use Rattle.unit_core.specs.Submissions.{SubmittedAccess}
use Rattle.unit_core.specs.Places.{nothing_kept, submission_in, IsKept, access_of}
use Rattle.unit_core.specs.KeptWords.{kept_of_event, is_submit, is_submit_of, is_submit_word, wide_at, kept_by, stands, Stands}

-- ---- one word changes

pub stand_set : (n : ℕ) (words : List ℕ) (i word : ℕ) → AllByRecursion (Stands n) words → Stands n word → AllByRecursion (Stands n) (set words i word)
stand_set n [] i word all one = tt
stand_set n (w ∷ ws) zero word all one = (one, all.1)
stand_set n (w ∷ ws) (suc i) word all one = (all.0, stand_set n ws i word all.1 one)

pub kept_set : (wide : List Kept) (words : List ℕ) (i word : ℕ) (items : List Kept) (kept : Kept) → map (kept_by wide) words ≡ items → kept_by wide word ≡ kept → map (kept_by wide) (set words i word) ≡ set items i kept
kept_set wide words i word items kept view is = map-set (kept_by wide) words i word ∙ rw (view, is) refl

-- ---- a word of a Submit

test_other : (a b : ℕ) → (a ≡ b → ⊥) → (a == b) ≡ false
test_other a b n = elim (eqb_tells a b) [ inl t ↦ absurd (n t.1) | inr f ↦ f.0 ]

test_same : (a b : ℕ) → a ≡ b → (a == b) ≡ true
test_same a b e = elim (eqb_tells a b) [ inl t ↦ t.0 | inr f ↦ absurd (f.1 e) ]

pub stands_by_submit : (n word : ℕ) → word / 2 ^ 61 ≡ 3 → is_submit_word word ≡ true → Stands n word
stands_by_submit n word kind submit = ap (λ b. cond b (is_submit_word word) (leb word n)) (test_same (word / 2 ^ 61) 3 kind) ∙ submit

pub kept_by_submit : (wide : List Kept) (word : ℕ) → word / 2 ^ 61 ≡ 3 → kept_by wide word ≡ kept_of_event (event_of_word word)
kept_by_submit wide word kind = ap (λ b. cond b (kept_of_event (event_of_word word)) (wide_at wide word)) (test_same (word / 2 ^ 61) 3 kind)

-- ---- the number of a wide submission

pub no_kind : (n : ℕ) → n ≤ 1048576 → (n / 2 ^ 61 == 3) ≡ false
no_kind n few = elim (eqb_tells (n / 2 ^ 61) 3) [
  | inl t ↦ (let e : n / 2 ^ 61 ≡ 3 = t.1 in absurd (omega (arith, e, few)))
  | inr f ↦ f.0
]

pub stands_by_number : (n : ℕ) → n ≤ 1048576 → stands n n ≡ true
stands_by_number n few = rw (no_kind n few) (grind (arith, nat_tests))

pub kept_by_number : (wide : List Kept) (kept : Kept) (n : ℕ) → n ≡ length wide + 1 → n ≤ 1048576 → kept_by (wide ++ kept ∷ []) n ≡ kept
kept_by_number wide kept n is few =
    let some : (n == 0) ≡ false = grind (arith, nat_tests) in
    let last : n - 1 ≡ length wide = omega (arith, is) in
    rw (no_kind n few, some, last) (get_or_push wide kept nothing_kept (length wide) refl)

pub stands_by_none : (n : ℕ) → Stands n 0
stands_by_none n = let z : leb 0 n ≡ true = grind (arith, nat_tests) in z

-- ---- a wide submission more

stands_more : (n word : ℕ) → stands n word ≡ true → stands (n + 1) word ≡ true
stands_more n word h = by_test (word / 2 ^ 61 == 3) _
    (λ t. rw t (rw t at h))
    (λ f. let few : leb word n ≡ true = rw f at h in rw f (grind (arith, nat_tests)))

pub stand_more : (n : ℕ) (words : List ℕ) → AllByRecursion (Stands n) words → AllByRecursion (Stands (n + 1)) words
stand_more n [] h = tt
stand_more n (w ∷ ws) h = (stands_more n w h.0, stand_more n ws h.1)

kept_same : (wide : List Kept) (kept : Kept) (word : ℕ) → stands (length wide) word ≡ true → kept_by (wide ++ kept ∷ []) word ≡ kept_by wide word
kept_same wide kept word h = by_test (word / 2 ^ 61 == 3) _
    (λ t. rw t refl)
    (λ f. let few : leb word (length wide) ≡ true = rw f at h in
    by_test (word == 0) _
    (λ z. rw (f, z) refl)
    (λ s. let below : word - 1 < length wide = grind (arith, nat_tests) in
    rw (f, s) (get_or_append_left wide (kept ∷ []) nothing_kept (word - 1) below)))

pub keep_more : (wide : List Kept) (kept : Kept) (words : List ℕ) → AllByRecursion (Stands (length wide)) words → map (kept_by (wide ++ kept ∷ [])) words ≡ map (kept_by wide) words
keep_more wide kept [] h = refl
keep_more wide kept (w ∷ ws) h = rw (kept_same wide kept w h.0, keep_more wide kept ws h.1) refl

-- ---- what is open is valid

kept_get : (items : List Kept) (p : ℕ) → AllByRecursion IsKept items → IsKept (get_or items p nothing_kept)
kept_get [] p h = tt
kept_get (k ∷ ks) zero h = h.0
kept_get (k ∷ ks) (suc p) h = kept_get ks p h.1

some_valid : (u caller : ℕ) (o : Option SubmittedAccess) → IfSome o (λ s. IsValidAccess s.access) → IfSome (access_of u caller o) (λ a. IsValidAccess a)
some_valid u caller None h = tt
some_valid u caller (Some s) h = by_test ((s.unit == u) && (s.caller == caller)) _
    (λ t. rw t h)
    (λ f. rw f tt)

open_valid : (u caller : ℕ) (kept : Kept) → IsKept kept → IfSome (access_of u caller (submission_in kept)) (λ a. IsValidAccess a)
open_valid u caller kept h = some_valid u caller (submission_in kept) h

pub wide_valid : (u caller : ℕ) (wide : List Kept) (words : List ℕ) (items : List Kept) (p word : ℕ) → map (kept_by wide) words ≡ items → AllByRecursion IsKept items → p < length words → word ≡ get_or words p word → (word / 2 ^ 61 ≡ 3 → ⊥)
    → IfSome (access_of u caller (submission_in (wide_at wide word))) (λ a. IsValidAccess a)
wide_valid u caller wide words items p word view valid inside at other =
    let here : get_or items p nothing_kept ≡ kept_by wide word = rw (← view) (get_or-map (kept_by wide) words p word nothing_kept inside ∙ ap (kept_by wide) (sym at)) in
    let number : kept_by wide word ≡ wide_at wide word = ap (λ b. cond b (kept_of_event (event_of_word word)) (wide_at wide word)) (test_other (word / 2 ^ 61) 3 other) in
    open_valid u caller (wide_at wide word) (subst IsKept (here ∙ number) (kept_get items p valid))

-- ---- the parts of a Submit's word

abbrev submit_with : ℕ → ℕ → ℕ → Option Kind → Option Event
submit_with unit caller rest o = option_map (λ access. Submit unit caller access) (option_and_then (λ kind.
    if leb (rest % 2 ^ 40 + (rest / 2 ^ 40 % 64 + 1)) (2 ^ 40)
    then Some (record { rrid = rest / 2 ^ 48; kind = kind; addr = rest % 2 ^ 40; len = rest / 2 ^ 40 % 64 + 1 })
    else None) o)

-- What is kept of a submission is open and has these three numbers.
pub record HasParts (u c r : ℕ) (kept : Kept) : Type 0 where
  pub is_open : kept.is_open ≡ true
  pub unit : kept.unit ≡ u
  pub caller : kept.caller ≡ c
  pub rrid : kept.rrid ≡ r

parts_with : (unit caller rest : ℕ) (o : Option Kind) → is_submit (submit_with unit caller rest o) ≡ true → HasParts unit caller (rest / 2 ^ 48) (kept_of_event (submit_with unit caller rest o))
parts_with unit caller rest None h = absurd (let n : false ≡ true = h in cc)
parts_with unit caller rest (Some kind) h = by_test (leb (rest % 2 ^ 40 + (rest / 2 ^ 40 % 64 + 1)) (2 ^ 40)) _
    (λ t. rw t (record { is_open = refl; unit = refl; caller = refl; rrid = refl }))
    (λ f. absurd (let n : false ≡ true = rw f at h in cc))

kind_of_three : (kind caller unit rest : ℕ) → kind ≡ 3 → event_with kind caller unit rest ≡ submit_with unit caller rest (kind_at (rest / 2 ^ 46 % 4))
kind_of_three kind caller unit rest e = rw e refl

pub submit_parts : (word : ℕ) → word / 2 ^ 61 ≡ 3 → is_submit_word word ≡ true → HasParts (word / 2 ^ 54 % 4) (word / 2 ^ 56 % 32) (word % 2 ^ 54 / 2 ^ 48) (kept_of_event (event_of_word word))
submit_parts word kind submit =
    let e = kind_of_three (word / 2 ^ 61) (word / 2 ^ 56 % 32) (word / 2 ^ 54 % 4) (word % 2 ^ 54) kind in
    subst (λ o. HasParts (word / 2 ^ 54 % 4) (word / 2 ^ 56 % 32) (word % 2 ^ 54 / 2 ^ 48) (kept_of_event o)) (sym e)
    (parts_with (word / 2 ^ 54 % 4) (word / 2 ^ 56 % 32) (word % 2 ^ 54) _ (subst (λ o. is_submit o ≡ true) e submit))

-- the requester of what is open, by these numbers
pub requester_by : (u c unit caller rrid : ℕ) (kept : Kept) → HasParts unit caller rrid kept → option_map (λ (a : Access). a.rrid) (access_of u c (submission_in kept)) ≡ (if (unit == u) && (caller == c) then Some rrid else None)
requester_by u c unit caller rrid kept h =
    rw (h.is_open, h.unit, h.caller) (by_test ((unit == u) && (caller == c)) _
    (λ t. rw t (ap Some h.rrid))
    (λ f. rw f refl))

-- ---- the test of a Submit's word

pub submit_test : (word u c : ℕ) → (nat_lt u 4 && (nat_lt c 32 && (word / 2 ^ 54 == 384 + c * 4 + u))) ≡ is_submit_of word u c
submit_test word u c = elim (eqb_tells (word / 2 ^ 54) (384 + c * 4 + u)) [
  | inl t ↦ (let e : word / 2 ^ 54 ≡ 384 + c * 4 + u = t.1 in
      by_test (nat_lt u 4) _
      (λ a. by_test (nat_lt c 32) _
      (λ b. let h : u < 4 = grind (arith, nat_tests) in
      let i : c < 32 = grind (arith, nat_tests) in
      rw (a, b, t.0, test_same (word / 2 ^ 61) 3 (omega (arith, e, h, i)), test_same (word / 2 ^ 54 % 4) u (omega (arith, e, h, i)), test_same (word / 2 ^ 56 % 32) c (omega (arith, e, h, i))) refl)
      (λ b. let i : 32 ≤ c = grind (arith, nat_tests) in
      rw (a, b, test_other (word / 2 ^ 56 % 32) c (λ x. omega (arith, x, i)), and-false (word / 2 ^ 61 == 3 && word / 2 ^ 54 % 4 == u)) refl))
      (λ a. let h : 4 ≤ u = grind (arith, nat_tests) in
      rw (a, test_other (word / 2 ^ 54 % 4) u (λ x. omega (arith, x, h)), and-false (word / 2 ^ 61 == 3)) refl))
  | inr f ↦ (by_test (word / 2 ^ 61 == 3) _
      (λ k. by_test (word / 2 ^ 54 % 4 == u) _
      (λ a. by_test (word / 2 ^ 56 % 32 == c) _
      (λ b. absurd (f.1 (grind (arith, nat_tests))))
      (λ b. rw (f.0, k, a, b, and-false (nat_lt c 32), and-false (nat_lt u 4)) refl))
      (λ a. rw (f.0, k, a, and-false (nat_lt c 32), and-false (nat_lt u 4)) refl))
      (λ k. rw (f.0, k, and-false (nat_lt c 32), and-false (nat_lt u 4)) refl))
]
