-- Neighbours in a filtered list.
use Rattle.std.proofs.Common.{◌≡◌, ℕ, zero, suc, ◌<◌, Bool, true, false, List, [], ◌∷◌, Some, filter, cond, refl, sym, subst, arith}
use Rattle.std.specs.Prelude.{slice_get}
use Rattle.event_words.proofs.Cases.{by_test}

-- each element with the one after it
abbrev pub AllPairs : {X : Type 0} → (X → X → Type 0) → List X → Type 0
AllPairs P [] = Unit {0}
AllPairs P (x ∷ []) = Unit {0}
AllPairs P (x ∷ y ∷ ys) = P x y × AllPairs P (y ∷ ys)

pub pairs_after : {X : Type 0} (P : X → X → Type 0) (x : X) (xs : List X) → AllPairs P (x ∷ xs) → AllPairs P xs
pairs_after P x [] h = tt
pairs_after P x (y ∷ ys) h = h.1

abbrev FollowsFirst : {X : Type 0} → (X → X → Type 0) → X → List X → Type 0
FollowsFirst P x [] = Unit {0}
FollowsFirst P x (y ∷ ys) = P x y

pairs_before : {X : Type 0} (P : X → X → Type 0) (x : X) (xs : List X) → FollowsFirst P x xs → AllPairs P xs → AllPairs P (x ∷ xs)
pairs_before P x [] f h = tt
pairs_before P x (y ∷ ys) f h = (f, h)

-- the first that passes is at this index
abbrev pub IsFirstAt : {X : Type 0} → (X → Bool) → List X → ℕ → X → Type 0
IsFirstAt {X} p xs k y = (slice_get xs k ≡ Some y) × (p y ≡ true) × ((j : ℕ) (z : X) → j < k → slice_get xs j ≡ Some z → p z ≡ false)

follows : {X : Type 0} (P : X → X → Type 0) (p : X → Bool) (x : X) (xs : List X) → ((k : ℕ) (y : X) → IsFirstAt p xs k y → P x y) → FollowsFirst P x (filter p xs)
follows P p x [] each = tt
follows {X} P p x (y ∷ ys) each =
    by_test (p y) _
    (λ t. subst (λ b. FollowsFirst P x (cond b (y ∷ filter p ys) (filter p ys))) (sym t) (each 0 y (refl, t, λ j z l e. absurd (omega arith))))
    (λ t. subst (λ b. FollowsFirst P x (cond b (y ∷ filter p ys) (filter p ys))) (sym t) (follows P p x ys (λ k z f. each (suc k) z (f.0, f.1, before k z t f))))
  where
    before : (k : ℕ) (z : X) → p y ≡ false → IsFirstAt p ys k z → (j : ℕ) (w : X) → j < suc k → slice_get (y ∷ ys) j ≡ Some w → p w ≡ false
    before k z t f zero w l e = let same : y ≡ w = cc in subst (λ v. p v ≡ false) same t
    before k z t f (suc j) w l e = f.2 j w (omega arith) e

-- Two elements that pass, where none between them does.
abbrev pub AreNeighbours : {X : Type 0} → (X → Bool) → List X → ℕ → ℕ → X → X → Type 0
AreNeighbours {X} p xs i k x y =
    (i < k) × (slice_get xs i ≡ Some x) × (slice_get xs k ≡ Some y) × (p x ≡ true) × (p y ≡ true) × ((j : ℕ) (z : X) → i < j → j < k → slice_get xs j ≡ Some z → p z ≡ false)

between : {X : Type 0} (p : X → Bool) (x : X) (xs : List X) (k : ℕ) (y : X) → IsFirstAt p xs k y → (j : ℕ) (z : X) → 0 < j → j < suc k → slice_get (x ∷ xs) j ≡ Some z → p z ≡ false
between p x xs k y f zero z l m e = absurd (omega arith)
between p x xs k y f (suc j) z l m e = f.2 j z (omega arith) e

apart : {X : Type 0} (p : X → Bool) (x : X) (xs : List X) (i k : ℕ) (y z : X) → AreNeighbours p xs i k y z → (j : ℕ) (w : X) → suc i < j → j < suc k → slice_get (x ∷ xs) j ≡ Some w → p w ≡ false
apart p x xs i k y z n zero w l m e = absurd (omega arith)
apart p x xs i k y z n (suc j) w l m e = n.5 j w (omega arith) (omega arith) e

-- What holds of neighbours holds of each element of the filtered list with the one after it.
pub pairs_filtered : {X : Type 0} (P : X → X → Type 0) (p : X → Bool) (xs : List X) → ((i k : ℕ) (x y : X) → AreNeighbours p xs i k x y → P x y) → AllPairs P (filter p xs)
pairs_filtered P p [] each = tt
pairs_filtered P p (x ∷ xs) each =
    let rest = pairs_filtered P p xs (λ i k y z n. each (suc i) (suc k) y z (let l = n.0 in omega arith, n.1, n.2, n.3, n.4, apart p x xs i k y z n)) in
    by_test (p x) _
    (λ t. subst (λ b. AllPairs P (cond b (x ∷ filter p xs) (filter p xs))) (sym t) (pairs_before P x (filter p xs) (follows P p x xs (λ k y f. each 0 (suc k) x y (omega arith, refl, f.0, t, f.1, between p x xs k y f))) rest))
    (λ t. subst (λ b. AllPairs P (cond b (x ∷ filter p xs) (filter p xs))) (sym t) rest)

pub pairs_of : {X : Type 0} (P Q : X → X → Type 0) (xs : List X) → ((x y : X) → P x y → Q x y) → AllPairs P xs → AllPairs Q xs
pairs_of P Q [] each h = tt
pairs_of P Q (x ∷ []) each h = tt
pairs_of P Q (x ∷ y ∷ ys) each h = (each x y h.0, pairs_of P Q (y ∷ ys) each h.1)
