-- A sum over the events of a history is the sum over its callers.
use Rattle.std.proofs.Common.{◌≡◌, ℕ, zero, suc, ◌+◌, ◌<◌, ◌≤◌, cond, List, [], ◌∷◌, sum_by, refl, sym, ap, ◌∙◌, arith, ⊎_elim}
use Rattle.std.specs.List.{AllByRecursion}
use Rattle.std.proofs.lemmas.Bool.{cases_eq, eq-eqb, ne_eqb}
use Rattle.std.proofs.lemmas.List.Sums.{sum_by-cons}
use Rattle.event_words.specs.declared.record.LoggedEvent.{LoggedEvent}
use Rattle.event_words.specs.Events.{caller_of}
use Rattle.event_words.specs.Records.{events_by}

module _ (G : LoggedEvent → ℕ) where
  -- over so many callers, from a number on
  abbrev pub totals : List LoggedEvent → ℕ → ℕ → ℕ
  totals xs i zero = 0
  totals xs i (suc n) = sum_by G (events_by i xs) + totals xs (i + 1) n

  own_more : (x : LoggedEvent) (xs : List LoggedEvent) (i : ℕ) → caller_of x.event ≡ i → sum_by G (events_by i (x ∷ xs)) ≡ G x + sum_by G (events_by i xs)
  own_more x xs i e = ap (λ b. sum_by G (cond b (x ∷ events_by i xs) (events_by i xs))) (eq-eqb (caller_of x.event) i e) ∙ sum_by-cons G x (events_by i xs)

  own_other : (x : LoggedEvent) (xs : List LoggedEvent) (i : ℕ) → (caller_of x.event ≡ i → ⊥) → sum_by G (events_by i (x ∷ xs)) ≡ sum_by G (events_by i xs)
  own_other x xs i ne = ap (λ b. sum_by G (cond b (x ∷ events_by i xs) (events_by i xs))) (ne_eqb (caller_of x.event) i ne)

  totals_other : (x : LoggedEvent) (xs : List LoggedEvent) (i n : ℕ) → caller_of x.event < i → totals (x ∷ xs) i n ≡ totals xs i n
  totals_other x xs i zero l = refl
  totals_other x xs i (suc n) l =
      ap (λ m. m + totals (x ∷ xs) (i + 1) n) (own_other x xs i (λ e. absurd (omega arith))) ∙ ap (λ m. sum_by G (events_by i xs) + m) (totals_other x xs (i + 1) n (omega arith))

  totals_more : (x : LoggedEvent) (xs : List LoggedEvent) (i n : ℕ) → i ≤ caller_of x.event → caller_of x.event < i + n → totals (x ∷ xs) i n ≡ G x + totals xs i n
  totals_more x xs i zero l u = absurd (omega arith)
  totals_more x xs i (suc n) l u = ⊎_elim
      (λ (e : caller_of x.event ≡ i).
      let own = own_more x xs i e in
      let rest = totals_other x xs (i + 1) n (omega arith) in
      omega (arith, own, rest))
      (λ (ne : caller_of x.event ≡ i → ⊥).
      let own = own_other x xs i ne in
      let rest = totals_more x xs (i + 1) n (omega (arith, ne)) (omega arith) in
      omega (arith, own, rest))
      (cases_eq (caller_of x.event) i)

  totals_none : (i n : ℕ) → totals [] i n ≡ 0
  totals_none i zero = refl
  totals_none i (suc n) = let h = totals_none (i + 1) n in omega (arith, h)

  -- Each event has one of the first n callers.
  pub sum_is : (xs : List LoggedEvent) (n : ℕ) → AllByRecursion (λ x. caller_of x.event < n) xs → sum_by G xs ≡ totals xs 0 n
  sum_is [] n h = sym (totals_none 0 n)
  sum_is (x ∷ xs) n h =
      let c = h.0 in
      sum_by-cons G x xs ∙ ap (λ m. G x + m) (sum_is xs n h.1) ∙ sym (totals_more x xs 0 n (omega arith) (omega arith))
