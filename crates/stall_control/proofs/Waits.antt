-- How many requesters are stalled with something in flight, as one of them changes.
use Rattle.std.proofs.Common.{◌≡◌, ◌≢◌, ℕ, suc, zero, ◌+◌, ◌<◌, ◌≤◌, Bool, true, false, not, ◌&&◌, ◌||◌, ◌==◌, ◌/◌, ◌%◌, ◌^◌, replicate, List, [], ◌∷◌, length, ◌++◌, count_by, set, take, arith, refl, sym, ap, ◌∙◌, subst, inl, inr, get_or-set_other, length-set}
use Rattle.std.specs.List.{range_with_len, list_any}
use Rattle.std.proofs.Math.Seq.{take-append_seam}
use Rattle.std.proofs.lemmas.List.{take-replicate, length-take-le, set_past}
use Rattle.std.proofs.lemmas.List.FromFn.{length-range_with_len}
use Rattle.std.proofs.lemmas.List.Sums.{sum_by-cons, count_by-le-length}
use Rattle.std.proofs.lemmas.Bool.Decides.{eqb_tells}
use Rattle.event_words.specs.Stalls.{flag_of, flags_after_rridscp}
use Rattle.event_words.proofs.Cases.{by_test, by_less}
use Rattle.stall_control.specs.Counts.{count_in, is_busy_at, is_busy_with, busy_count, one}

count_cons : (p : ℕ → Bool) (x : ℕ) (xs : List ℕ) → count_by p (x ∷ xs) ≡ one (p x) + count_by p xs
count_cons p x xs = sum_by-cons (λ y. one (p y)) x xs

-- ---- one changes

counts_alike : (p q : ℕ → Bool) (r a n : ℕ) → ((m : ℕ) → m ≢ r → p m ≡ q m) → r < a → count_by p (range_with_len a n) ≡ count_by q (range_with_len a n)
counts_alike p q r a zero e l = refl
counts_alike p q r a (suc n) e l =
    let i = counts_alike p q r (a + 1) n e (omega arith) in
    let c = count_cons p a (range_with_len (a + 1) n) in
    let d = count_cons q a (range_with_len (a + 1) n) in
    let f : one (p a) ≡ one (q a) = ap (λ b. one b) (e a (λ z. omega arith)) in
    omega arith

count_change : (p q : ℕ → Bool) (r a n : ℕ) → ((m : ℕ) → m ≢ r → p m ≡ q m) → a ≤ r → r < a + n
    → count_by p (range_with_len a n) + one (q r) ≡ count_by q (range_with_len a n) + one (p r)
count_change p q r a zero e l h = absurd (omega arith)
count_change p q r a (suc n) e l h =
    let c = count_cons p a (range_with_len (a + 1) n) in
    let d = count_cons q a (range_with_len (a + 1) n) in
    elim (eqb_tells a r) [
      | inl z ↦ (let s = counts_alike p q r (a + 1) n e (omega arith) in
          let f : one (p a) ≡ one (p r) = ap (λ m. one (p m)) z.1 in
          let g : one (q a) ≡ one (q r) = ap (λ m. one (q m)) z.1 in
          omega arith)
      | inr z ↦ (let i = count_change p q r (a + 1) n e (omega arith) (omega arith) in
          let f : one (p a) ≡ one (q a) = ap (λ b. one b) (e a z.1) in
          omega arith)
    ]

count_small : (p : ℕ → Bool) (a n : ℕ) → count_by p (range_with_len a n) ≤ n
count_small p a n = omega (arith, count_by-le-length p (range_with_len a n), length-range_with_len a n)

pub busy_small : (flags : List Bool) (counts : List ℕ) → busy_count flags counts ≤ length flags
busy_small flags counts = count_small (is_busy_at flags counts) 0 (length flags)

pub count_change_in : (flags : List Bool) (counts counts' : List ℕ) (r : ℕ) → r < length flags → ((m : ℕ) → m ≢ r → count_in counts m ≡ count_in counts' m)
    → busy_count flags counts + one (is_busy_at flags counts' r) ≡ busy_count flags counts' + one (is_busy_at flags counts r)
count_change_in flags counts counts' r l e =
    count_change (is_busy_at flags counts) (is_busy_at flags counts') r 0 (length flags) (λ m n. ap (λ k. flag_of flags m && not (k == 0)) (e m n)) (omega arith) (omega arith)

-- ---- a count changes

pub count_put : (flags : List Bool) (counts counts' : List ℕ) (r k : ℕ) → length flags ≡ length counts → counts' ≡ set counts r k
    → busy_count flags counts + one (is_busy_at flags counts' r) ≡ busy_count flags counts' + one (is_busy_at flags counts r)
count_put flags counts counts' r k l e = by_less r (length counts) _
    (λ h. rw e (count_change_in flags counts (set counts r k) r (omega arith) (λ m n. sym (get_or-set_other counts r m k 0 n))))
    (λ h. let d : counts' ≡ counts = e ∙ set_past counts r k h in rw d refl)

pub flag_put : (flags flags' : List Bool) (counts : List ℕ) (r : ℕ) (f : Bool) → flags' ≡ set flags r f
    → busy_count flags counts + one (is_busy_at flags' counts r) ≡ busy_count flags' counts + one (is_busy_at flags counts r)
flag_put flags flags' counts r f e = by_less r (length flags) _
    (λ h.
    let n : length flags' ≡ length flags = ap length e ∙ length-set flags r f in
    let a = count_change (is_busy_at flags counts) (is_busy_at flags' counts) r 0 (length flags)
    (λ m z. let d : flag_of flags' m ≡ flag_of flags m = ap (λ l. flag_of l m) e ∙ get_or-set_other flags r m f false z in ap (λ k. k && not (count_in counts m == 0)) (sym d)) (omega arith) (omega arith) in
    let c : busy_count flags' counts ≡ count_by (is_busy_at flags' counts) (range_with_len 0 (length flags)) = ap (λ k. count_by (is_busy_at flags' counts) (range_with_len 0 k)) n in
    omega arith)
    (λ h. let d : flags' ≡ flags = e ∙ set_past flags r f h in rw d refl)

pub flags_put : (flags flags' : List Bool) (counts : List ℕ) (value r : ℕ) → r ≡ value % 2 ^ 16 → flags' ≡ flags_after_rridscp flags value
    → busy_count flags counts + one (is_busy_at flags' counts r) ≡ busy_count flags' counts + one (is_busy_at flags counts r)
flags_put flags flags' counts value r q e = by_test (value / 2 ^ 30 == 1) _
    (λ t. flag_put flags flags' counts r true (rw q (rw t at e)))
    (λ t. by_test (value / 2 ^ 30 == 2) _
    (λ u. flag_put flags flags' counts r false (rw q (rw u at (rw t at e))))
    (λ u. let d : flags' ≡ flags = rw u at (rw t at e) in rw d refl))

not_zero : (k : ℕ) → 0 < k → (k == 0) ≡ false
not_zero k e = elim (eqb_tells k 0) [
  | inl z ↦ absurd (let y = z.1 in omega arith)
  | inr z ↦ z.0
]

pub ticked_not : (f : Bool) (k : ℕ) → f ≡ false → one (f && not (k == 0)) ≡ 0
ticked_not f k e = rw e refl

-- ---- whether there are some

some_or_none : (p : ℕ → Bool) (xs : List ℕ) → not (count_by p xs == 0) ≡ list_any p xs
some_or_none p [] = refl
some_or_none p (x ∷ xs) = by_test (p x) _
    (λ t. let c = count_cons p x xs in let k : one (p x) ≡ 1 = ap (λ b. one b) t in
    ap not (not_zero (count_by p (x ∷ xs)) (omega arith)) ∙ sym (ap (λ b. b || list_any p xs) t))
    (λ t. let c = count_cons p x xs in let k : one (p x) ≡ 0 = ap (λ b. one b) t in
    let e : count_by p (x ∷ xs) ≡ count_by p xs = omega arith in
    ap (λ n. not (n == 0)) e ∙ (some_or_none p xs ∙ sym (ap (λ b. b || list_any p xs) t)))

pub busy_is : (flags : List Bool) (counts : List ℕ) (n : ℕ) → n ≡ busy_count flags counts → not (n == 0) ≡ is_busy_with flags counts
busy_is flags counts n e = ap (λ k. not (k == 0)) e ∙ some_or_none (is_busy_at flags counts) (range_with_len 0 (length flags))

-- ---- none at first

none_busy : (n k a m : ℕ) → count_by (is_busy_at (replicate n false) (replicate k 0)) (range_with_len a m) ≡ 0
none_busy n k a zero = refl
none_busy n k a (suc m) =
    let c = count_cons (is_busy_at (replicate n false) (replicate k 0)) a (range_with_len (a + 1) m) in
    let i = none_busy n k (a + 1) m in
    let e : one (is_busy_at (replicate n false) (replicate k 0) a) ≡ 0 = ticked_not (flag_of (replicate n false) a) (count_in (replicate k 0) a) (no_flag n a) in
    omega arith
  where
    no_flag : (n i : ℕ) → flag_of (replicate n false) i ≡ false
    no_flag zero i = refl
    no_flag (suc n) zero = refl
    no_flag (suc n) (suc i) = no_flag n i

-- ---- one more

pub count_append : (p : ℕ → Bool) (a n j : ℕ) → a + n ≡ j → count_by p (range_with_len a (n + 1)) ≡ count_by p (range_with_len a n) + one (p j)
count_append p a zero j e =
    let d : a ≡ j = omega arith in
    let c = count_cons p a [] in
    let z : count_by p [] ≡ 0 = refl in
    let f : one (p a) ≡ one (p j) = ap (λ k. one (p k)) d in omega arith
count_append p a (suc n) j e =
    let s : suc (n + 1) ≡ suc n + 1 = omega arith in
    let i = count_append p (a + 1) n j (omega arith) in
    let c = count_cons p a (range_with_len (a + 1) (n + 1)) in
    let d = count_cons p a (range_with_len (a + 1) n) in
    subst (λ k. count_by p (range_with_len a k) ≡ count_by p (range_with_len a (suc n)) + one (p j)) s (omega arith)

pub count_fits : (p : ℕ → Bool) (n w : ℕ) → w ≡ count_by p (range_with_len 0 n) → w ≤ n
count_fits p n w e = let a = count_small p 0 n in omega arith

-- ---- lists in front of what is left of an array

taken : {X : Type 0} (n : ℕ) (xs ys : List X) → n ≡ length xs → take n (xs ++ ys) ≡ xs
taken n xs ys e = subst (λ k. take k (xs ++ ys) ≡ xs) (sym e) (take-append_seam xs ys)

-- One requester may have changed, between a test `was` and a test `now`: what holds of the number `w` before, where
-- `of` tells the number from the first `n` items of a list that begins with `new`.
pub record IsOneChanged {X : Type 0} (n w : ℕ) (was now : Bool) (new : List X) (of : List X → ℕ) : Type 0 where
  pub few : w ≤ 64
  pub some : one was ≤ w + one now
  pub counted : (rest : List X) (v : ℕ) → v + one was ≡ w + one now → v ≡ of (take n (new ++ rest))

one_changed : {X : Type 0} (n w : ℕ) (was now : Bool) (new rest : List X) (of : List X → ℕ) → n ≡ length new → w ≤ 64 → w + one now ≡ of (take n (new ++ rest)) + one was → IsOneChanged n w was now new of
one_changed n w was now new rest of l few e =
    let a : of (take n (new ++ rest)) ≡ of new = ap of (taken n new rest l) in
    record {
      few = few;
      some = omega arith;
      counted = λ rest' v f. let b : of (take n (new ++ rest')) ≡ of new = ap of (taken n new rest' l) in omega arith;
    }

few_busy : (n w : ℕ) (flags : List Bool) (counts : List ℕ) → n ≤ 64 → length flags ≡ 64 → w ≡ busy_count (take n flags) counts → w ≤ 64
few_busy n w flags counts h l e =
    let a = length-take-le n flags (omega arith) in
    let b = busy_small (take n flags) counts in omega arith

-- the same for a count, by what is told of the requester's flag
pub count_facts : (n r k w : ℕ) (flags : List Bool) (counts new : List ℕ) (stalled was now : Bool) → n ≤ 64 → length flags ≡ 64 → length counts ≡ 64 → n ≡ length new → w ≡ busy_count (take n flags) (take n counts)
    → stalled ≡ flag_of (take n flags) r → was ≡ (stalled && not (count_in (take n counts) r == 0)) → now ≡ (stalled && not (count_in new r == 0)) → new ≡ set (take n counts) r k
    → IsOneChanged n w was now new (busy_count (take n flags))
count_facts n r k w flags counts new stalled was now h fl cl nl e1 f e2 e3 e4 =
    let a = length-take-le n flags (omega arith) in
    let b = length-take-le n counts (omega arith) in
    let t : take n (new ++ []) ≡ new = taken n new [] nl in
    let x : was ≡ is_busy_at (take n flags) (take n counts) r = e2 ∙ ap (λ g. g && not (count_in (take n counts) r == 0)) f in
    let y : now ≡ is_busy_at (take n flags) (take n (new ++ [])) r = e3 ∙ ap (λ g. g && not (count_in new r == 0)) f ∙ ap (λ l. is_busy_at (take n flags) l r) (sym t) in
    one_changed n w was now new [] (busy_count (take n flags)) nl (few_busy n w flags (take n counts) h fl e1)
    (rw (e1, x, y) (count_put (take n flags) (take n counts) (take n (new ++ [])) r k (omega arith) (t ∙ e4)))

pub flag_facts : (n value w : ℕ) (flags new rest : List Bool) (counts : List ℕ) (was now : Bool) → n ≤ 64 → length flags ≡ 64 → n ≡ length new
    → w ≡ busy_count (take n flags) counts → was ≡ is_busy_at (take n flags) counts (value % 2 ^ 16) → now ≡ is_busy_at (take n (new ++ rest)) counts (value % 2 ^ 16) → new ≡ flags_after_rridscp (take n flags) value
    → IsOneChanged n w was now new (λ f. busy_count f counts)
flag_facts n value w flags new rest counts was now h fl nl e1 e2 e3 e4 =
    one_changed n w was now new rest (λ f. busy_count f counts) nl (few_busy n w flags counts h fl e1)
    (rw (e1, e2, e3) (flags_put (take n flags) (take n (new ++ rest)) counts value (value % 2 ^ 16) refl (taken n new rest nl ∙ e4)))

pub start : (n : ℕ) → n ≤ 64 → 0 ≡ busy_count (take n (replicate 64 false)) (take n (replicate 64 0))
start n h = rw (take-replicate n 64 false h, take-replicate {X = ℕ} n 64 0 h) (sym (none_busy n n 0 (length (replicate n false))))
