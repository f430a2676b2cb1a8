-- The last register write of caller 1, by a search from the end.
use Rattle.std.proofs.Common.{◌≡◌, ℕ, zero, suc, ◌<◌, ◌≤◌, ◌==◌, inl, inr, ◌⊎◌, Bool, true, false, Option, Some, None, length, refl, sym, ap, subst, ◌∙◌, arith, ⊎_elim}
use Rattle.std.proofs.lemmas.Option.{slice_get_within}
use Rattle.std.proofs.lemmas.Bool.{cases_lt, eq-eqb, eqb-true}
use Rattle.event_words.specs.declared.event.Event.{Event}
use Rattle.event_words.specs.declared.event.Event.TheVariants.{RegWrite}
use Rattle.unit_core.specs.Histories.{History, event_at}
use Rattle.unit_core.specs.Updates.{IsDrainedReading, IsUpdateWrite, IsRelease}

write_or_not : (h : History) (k : ℕ) → IsUpdateWrite h k ⊎ (IsUpdateWrite h k → ⊥)
write_or_not h k = by (event_at h k) refl
  where
    by_caller : (unit caller index value : ℕ) (b : Bool) → event_at h k ≡ Some (RegWrite unit caller index value) → (caller == 1) ≡ b
        → IsUpdateWrite h k ⊎ (IsUpdateWrite h k → ⊥)
    by_caller unit caller index value true e t = inl (record { unit = unit; index = index; value = value; event = e ∙ ap (λ c. Some (RegWrite unit c index value)) (eqb-true caller 1 t) })
    by_caller unit caller index value false e t = inr (λ w.
        let both : Some (RegWrite unit caller index value) ≡ Some (RegWrite w.unit 1 w.index w.value) = sym e ∙ w.event in
        let one : caller ≡ 1 = cc in
        let n : false ≡ true = sym t ∙ eq-eqb caller 1 one in
        cc)

    by : (o : Option Event) → event_at h k ≡ o → IsUpdateWrite h k ⊎ (IsUpdateWrite h k → ⊥)
    by None e = inr (λ w. let n : None ≡ Some (RegWrite w.unit 1 w.index w.value) = sym e ∙ w.event in cc)
    by (Some (RegWrite unit caller index value)) e = by_caller unit caller index value (caller == 1) e refl
    by (Some f) e = inr (λ w. let n : Some f ≡ Some (RegWrite w.unit 1 w.index w.value) = sym e ∙ w.event in cc)

-- the last of the places below n
record LastBelow (h : History) (n : ℕ) : Type 0 where
  pub place : ℕ
  pub write : IsUpdateWrite h place
  pub last : (k : ℕ) → k < n → IsUpdateWrite h k → k ≤ place

greatest : (h : History) (n : ℕ) → LastBelow h n ⊎ ((k : ℕ) → k < n → IsUpdateWrite h k → ⊥)
greatest h zero = inr (λ k l w. absurd (omega arith))
greatest h (suc n) = by (write_or_not h n) (greatest h n)
  where
    by : IsUpdateWrite h n ⊎ (IsUpdateWrite h n → ⊥) → LastBelow h n ⊎ ((k : ℕ) → k < n → IsUpdateWrite h k → ⊥)
        → LastBelow h (suc n) ⊎ ((k : ℕ) → k < suc n → IsUpdateWrite h k → ⊥)
    by (inl w) below = inl (record { place = n; write = w; last = λ k l v. omega arith })
    by (inr not) (inl g) = inl (record { place = g.place; write = g.write; last = λ k l v. ⊎_elim (λ (m : k < n). g.last k m v) (λ (m : n ≤ k). let e : k ≡ n = omega arith in absurd (not (subst (IsUpdateWrite h) e v))) (cases_lt k n) })
    by (inr not) (inr none) = inr (λ k l v. ⊎_elim (λ (m : k < n). none k m v) (λ (m : n ≤ k). let e : k ≡ n = omega arith in not (subst (IsUpdateWrite h) e v)) (cases_lt k n))

-- Where there is a drained reading and caller 1 writes a register, there is a release.
pub release_there : (h : History) (b : ℕ) → IsDrainedReading h b → (((k : ℕ) → IsUpdateWrite h k → ⊥) → ⊥) → (r : ℕ) × IsRelease h r
release_there h b read some = by (greatest h (length h.events))
  where
    inside : (k : ℕ) → IsUpdateWrite h k → k < length h.events
    inside k w = slice_get_within h.events k (RegWrite w.unit 1 w.index w.value) w.event

    by : LastBelow h (length h.events) ⊎ ((k : ℕ) → k < length h.events → IsUpdateWrite h k → ⊥) → (r : ℕ) × IsRelease h r
    by (inl g) = (g.place, record { place = b; reading = read; write = g.write; last = λ k w. g.last k (inside k w) w })
    by (inr none) = absurd (some (λ k w. none k (inside k w) w))
