-- The register writes of events, and lists of events cut at a place.
use Rattle.std.proofs.Common.{◌≡◌, ℕ, zero, suc, ◌+◌, ◌<◌, ◌≤◌, ◌++◌, inl, inr, ◌⊎◌, Bool, true, false, cond, List, [], ◌∷◌, Option, Some, None, length, map, filter, take, drop, append_assoc, refl, sym, ap, subst, ◌∙◌, arith}
use Rattle.std.specs.Prelude.{slice_get, IsSome}
use Rattle.std.specs.List.{AllByRecursion}
use Rattle.std.proofs.lemmas.List.{append-nil}
use Rattle.event_words.specs.declared.event.Event.{Event}
use Rattle.event_words.specs.declared.event.Event.TheVariants.{RegWrite}
use Rattle.policy_compiler.specs.declared.image.RegPair.{RegPair}
use Rattle.policy_compiler.specs.Images.{pair}

-- the register that an event writes, and the value
abbrev pub write_of : Event → List RegPair
write_of (RegWrite unit caller index value) = pair index value ∷ []
write_of _ = []

abbrev pub writes : List Event → List RegPair
writes [] = []
writes (e ∷ es) = write_of e ++ writes es

pub writes_append : (es fs : List Event) → writes (es ++ fs) ≡ writes es ++ writes fs
writes_append [] fs = refl
writes_append (e ∷ es) fs = ap (λ ws. write_of e ++ ws) (writes_append es fs) ∙ sym (append_assoc (write_of e) (writes es) (writes fs))

-- The writes before the next place.
pub writes_next : (es : List Event) (k : ℕ) (e : Event) → slice_get es k ≡ Some e
    → writes (take (suc k) es) ≡ writes (take k es) ++ write_of e
writes_next [] k e h = absurd (let n : None ≡ Some e = h in cc)
writes_next (f ∷ es) zero e h = let same : f ≡ e = cc in append-nil (write_of f) ∙ ap write_of same
writes_next (f ∷ es) (suc k) e h = ap (λ ws. write_of f ++ ws) (writes_next es k e h) ∙ sym (append_assoc (write_of f) (writes (take k es)) (write_of e))

pub writes_past : (es : List Event) (k : ℕ) → slice_get es k ≡ None → writes (take (suc k) es) ≡ writes (take k es)
writes_past [] zero h = refl
writes_past [] (suc k) h = refl
writes_past (f ∷ es) zero h = absurd (let n : Some f ≡ None = h in cc)
writes_past (f ∷ es) (suc k) h = ap (λ ws. write_of f ++ ws) (writes_past es k h)

-- all writes, cut at a place
pub writes_cut : (es : List Event) (k : ℕ) (e : Event) → slice_get es k ≡ Some e
    → writes es ≡ writes (take k es) ++ (write_of e ++ writes (drop (suc k) es))
writes_cut [] k e h = absurd (let n : None ≡ Some e = h in cc)
writes_cut (f ∷ es) zero e h = let same : f ≡ e = cc in ap (λ g. write_of g ++ writes es) same
writes_cut (f ∷ es) (suc k) e h = ap (λ ws. write_of f ++ ws) (writes_cut es k e h) ∙ sym (append_assoc (write_of f) (writes (take k es)) (write_of e ++ writes (drop (suc k) es)))

-- ---- a list cut at a place

pub take_map : {A B : Type 0} (f : A → B) (xs : List A) (k : ℕ) → take k (map f xs) ≡ map f (take k xs)
take_map f [] zero = refl
take_map f [] (suc k) = refl
take_map f (x ∷ xs) zero = refl
take_map f (x ∷ xs) (suc k) = ap (λ ys. f x ∷ ys) (take_map f xs k)

pub cut_at : {A : Type 0} (xs : List A) (k : ℕ) (x : A) → slice_get xs k ≡ Some x → xs ≡ take k xs ++ x ∷ drop (suc k) xs
cut_at [] k x h = absurd (let n : None ≡ Some x = h in cc)
cut_at (y ∷ xs) zero x h = let same : y ≡ x = cc in ap (λ z. z ∷ xs) same
cut_at (y ∷ xs) (suc k) x h = ap (λ ys. y ∷ ys) (cut_at xs k x h)

pub all_before : {A : Type 0} (P : A → Type 0) (xs : List A) (k : ℕ) → ((j : ℕ) (x : A) → j < k → slice_get xs j ≡ Some x → P x)
    → AllByRecursion P (take k xs)
all_before P [] zero h = tt
all_before P [] (suc k) h = tt
all_before P (x ∷ xs) zero h = tt
all_before P (x ∷ xs) (suc k) h = (h 0 x (omega arith) refl, all_before P xs k (λ j y l e. h (suc j) y (omega arith) e))

pub all_from : {A : Type 0} (P : A → Type 0) (xs : List A) (k : ℕ) → ((j : ℕ) (x : A) → k ≤ j → slice_get xs j ≡ Some x → P x)
    → AllByRecursion P (drop k xs)
all_from P [] zero h = tt
all_from P [] (suc k) h = tt
all_from P (x ∷ xs) zero h = (h 0 x (omega arith) refl, all_from P xs zero (λ j y l e. h (suc j) y (omega arith) e))
all_from P (x ∷ xs) (suc k) h = all_from P xs k (λ j y l e. h (suc j) y (omega arith) e)

pub all_get : {A : Type 0} (P : A → Type 0) (xs : List A) (k : ℕ) (x : A) → AllByRecursion P xs → slice_get xs k ≡ Some x → P x
all_get P [] k x all h = absurd (let n : None ≡ Some x = h in cc)
all_get P (y ∷ xs) zero x all h = let same : y ≡ x = cc in subst P same all.0
all_get P (y ∷ xs) (suc k) x all h = all_get P xs k x all.1 h

pub all_parts : {A : Type 0} (P : A → Type 0) (xs ys : List A) → AllByRecursion P (xs ++ ys) → AllByRecursion P xs × AllByRecursion P ys
all_parts P [] ys h = (tt, h)
all_parts P (x ∷ xs) ys h = let rest = all_parts P xs ys h.1 in ((h.0, rest.0), rest.1)

pub all_filter : {A : Type 0} (P : A → Type 0) (p : A → Bool) (xs : List A) → AllByRecursion P xs → AllByRecursion P (filter p xs)
all_filter P p [] h = tt
all_filter P p (x ∷ xs) h = by (p x) (all_filter P p xs h.1)
  where
    by : (b : Bool) → AllByRecursion P (filter p xs) → AllByRecursion P (cond b (x ∷ filter p xs) (filter p xs))
    by true rest = (h.0, rest)
    by false rest = rest

-- what holds of the filtered elements holds of those that pass
pub all_passing : {A : Type 0} (P : A → Type 0) (p : A → Bool) (xs : List A) → AllByRecursion P (filter p xs)
    → AllByRecursion (λ x. p x ≡ true → P x) xs
all_passing P p [] h = tt
all_passing P p (x ∷ xs) h = by (p x) (λ k. all_passing P p xs k) refl h
  where
    by : (b : Bool) → (AllByRecursion P (filter p xs) → AllByRecursion (λ x. p x ≡ true → P x) xs) → p x ≡ b
        → AllByRecursion P (cond b (x ∷ filter p xs) (filter p xs)) → AllByRecursion (λ x. p x ≡ true → P x) (x ∷ xs)
    by true rest t h = (λ e. h.0, rest h.1)
    by false rest t h = (λ e. absurd (let n : false ≡ true = sym t ∙ e in cc), rest h)

-- so of a property with a number
pub all_each : {A : Type 0} (P : ℕ → A → Type 0) (xs : List A) → ((c : ℕ) → AllByRecursion (P c) xs)
    → AllByRecursion (λ x. (c : ℕ) → P c x) xs
all_each P [] h = tt
all_each P (x ∷ xs) h = (λ c. (h c).0, all_each P xs (λ c. (h c).1))

pub get_append : {A : Type 0} (xs ys : List A) (m : ℕ) → slice_get (xs ++ ys) (length xs + m) ≡ slice_get ys m
get_append [] ys m = let e : 0 + m ≡ m = omega arith in ap (slice_get ys) e
get_append (x ∷ xs) ys m = let e : length (x ∷ xs) + m ≡ suc (length xs + m) = omega arith in ap (slice_get (x ∷ (xs ++ ys))) e ∙ get_append xs ys m

pub get_low : {A : Type 0} (xs ys : List A) (k : ℕ) → k < length xs → slice_get (xs ++ ys) k ≡ slice_get xs k
get_low [] ys k l = absurd (omega arith)
get_low (x ∷ xs) ys zero l = refl
get_low (x ∷ xs) ys (suc k) l = get_low xs ys k (omega arith)

-- One list that is cut at two places: the first cut is in the first part, or in the second.
pub record CutInFirst {A : Type 0} (q z f g : List A) : Type 0 where
  pub more : List A
  pub first : f ≡ q ++ more
  pub rest : z ≡ more ++ g

pub record CutInSecond {A : Type 0} (q z f g : List A) : Type 0 where
  pub more : List A
  pub taken : q ≡ f ++ more
  pub rest : more ++ z ≡ g

pub two_cuts : {A : Type 0} (q z f g : List A) → q ++ z ≡ f ++ g → CutInFirst q z f g ⊎ CutInSecond q z f g
two_cuts [] z f g e = inl (record { more = f; first = refl; rest = e })
two_cuts (x ∷ q) z [] g e = inr (record { more = x ∷ q; taken = refl; rest = e })
two_cuts (x ∷ q) z (y ∷ f) g e =
    let same : x ≡ y = cc in
    let tail : q ++ z ≡ f ++ g = cc in
    by same (two_cuts q z f g tail)
  where
    by : x ≡ y → CutInFirst q z f g ⊎ CutInSecond q z f g → CutInFirst (x ∷ q) z (y ∷ f) g ⊎ CutInSecond (x ∷ q) z (y ∷ f) g
    by same (inl c) = inl (record { more = c.more; first = ap (λ w. w ∷ f) (sym same) ∙ ap (λ ys. x ∷ ys) c.first; rest = c.rest })
    by same (inr c) = inr (record { more = c.more; taken = ap (λ w. w ∷ q) same ∙ ap (λ ys. y ∷ ys) c.taken; rest = c.rest })

pub same_first : {A : Type 0} (xs ys zs : List A) → xs ++ ys ≡ xs ++ zs → ys ≡ zs
same_first [] ys zs e = e
same_first (x ∷ xs) ys zs e = let rest : xs ++ ys ≡ xs ++ zs = cc in same_first xs ys zs rest

pub nothing_after : {A : Type 0} (xs ys : List A) → xs ++ ys ≡ [] → ys ≡ []
nothing_after [] ys e = e
nothing_after (x ∷ xs) ys e = absurd (let n : x ∷ (xs ++ ys) ≡ [] = e in cc)

pub some_of : {A : Type 0} (o : Option A) → IsSome o → (a : A) × (o ≡ Some a)
some_of None h = absurd (let n : false ≡ true = h in cc)
some_of (Some a) h = (a, refl)
