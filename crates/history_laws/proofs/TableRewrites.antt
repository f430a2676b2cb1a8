-- The writes of tables of a plan bring what the old image left to what the new one leaves.
use Rattle.std.proofs.Common.{◌≡◌, ℕ, zero, suc, ◌+◌, ◌<◌, ◌≤◌, ◌++◌, ◌==◌, not, ◌&&◌, ◌||◌, inl, inr, Bool, true, false, cond, List, [], ◌∷◌, Option, Some, None, map, filter, refl, sym, ap, subst, ◌∙◌, arith, ⊎_elim}
use Rattle.std.specs.Prelude.{is_some, unwrap_or}
use Rattle.std.specs.List.{AllByRecursion, range_with_len}
use Rattle.std.specs.Option.{option_or}
use Rattle.std.proofs.lemmas.Bool.{cases_eq, cases_lt, eq-eqb, ne_eqb, eqb-true, eqb-false}
use Rattle.event_words.specs.declared.register.Register.TheVariants.{Hwcfg0}
use Rattle.event_words.specs.declared.shape.Shape.{Shape}
use Rattle.event_words.specs.Registers.{index_count, index_of}
use Rattle.policy_compiler.specs.declared.image.RegPair.{RegPair}
use Rattle.policy_compiler.specs.Policies.{PolicyOf, IsPolicy}
use Rattle.policy_compiler.specs.Needs.{need_refusal}
use Rattle.policy_compiler.specs.Images.{ImageOf, pair, image_of}
use Rattle.policy_compiler.specs.Commands.{write_command}
use Rattle.policy_compiler.proofs.Standing.{value_from, value_of, IsRewrite}
use Rattle.policy_compiler.proofs.Decisive.{IsImageWrite, image_each, image_shape, image_enables}
use Rattle.update_planner.specs.Plans.{written_value, is_written, is_rewritten, rewrite, rewrites, plan_commands}
use Rattle.history_laws.proofs.WriteRecords.{plan_of, stall, release_write, until_drained}
use Rattle.history_laws.proofs.UpdateWrites.{Rewrites}

-- ---- the plan's commands

abbrev new_value : ImageOf → ℕ → ℕ
new_value new i = unwrap_or (written_value new.writes i) 0

abbrev pub tables_between : ImageOf → ImageOf → List RegPair
tables_between old new = map (λ i. pair i (new_value new i)) (filter (is_rewritten old new) (range_with_len 0 (index_count new.shape)))

same_commands : (new : ImageOf) (is : List ℕ)
    → map (rewrite new) is ++ write_command release_write ∷ []
    ≡ map write_command (map (λ i. pair i (new_value new i)) is ++ release_write ∷ [])
same_commands new [] = refl
same_commands new (i ∷ is) = ap (λ cs. rewrite new i ∷ cs) (same_commands new is)

-- the commands after the reads
pub rewrites_are : (old new : ImageOf)
    → rewrites old new ++ write_command release_write ∷ [] ≡ map write_command (tables_between old new ++ release_write ∷ [])
unfolding rewrites
rewrites_are old new = same_commands new (filter (is_rewritten old new) (range_with_len 0 (index_count new.shape)))

pub plan_is : (old new : ImageOf) (polls : ℕ) → plan_commands old new polls ≡ plan_of (stall ∷ []) (tables_between old new) polls
unfolding plan_commands
plan_is old new polls = ap (λ cs. write_command stall ∷ until_drained polls ∷ cs) (rewrites_are old new)

-- ---- values

value_is : (n : ℕ) (ws : List RegPair) (i : ℕ) → value_from n ws i ≡ unwrap_or (written_value ws i) n
value_is n [] i = refl
value_is n (w ∷ ws) i = value_is (cond (w.index == i) w.value n) ws i ∙ by (w.index == i) (written_value ws i)
  where
    by : (b : Bool) (o : Option ℕ) → unwrap_or o (cond b w.value n) ≡ unwrap_or (option_or o (cond b (Some w.value) None)) n
    by b (Some v) = refl
    by true None = refl
    by false None = refl

unwritten : (ws : List RegPair) (i : ℕ) → written_value ws i ≡ None → value_of ws i ≡ 0
unwritten ws i e = value_is 0 ws i ∙ ap (λ o. unwrap_or o 0) e

abbrev entries_at : (ℕ → Bool) → (ℕ → ℕ) → ℕ → ℕ → List RegPair
entries_at p v a n = map (λ i. pair i (v i)) (filter p (range_with_len a n))

missed : (p : ℕ → Bool) (v : ℕ → ℕ) (x a n i : ℕ) → (a ≤ i → i < a + n → p i ≡ false) → value_from x (entries_at p v a n) i ≡ x
missed p v x a zero i f = refl
missed p v x a (suc n) i f = by (p a) refl (missed p v x (a + 1) n i (λ l m. f (omega arith) (omega arith)))
  where
    by : (b : Bool) → p a ≡ b → value_from x (entries_at p v (a + 1) n) i ≡ x
        → value_from x (map (λ i. pair i (v i)) (cond b (a ∷ filter p (range_with_len (a + 1) n)) (filter p (range_with_len (a + 1) n)))) i
        ≡ x
    by false t rest = rest
    by true t rest =
        let other : (a == i) ≡ false = ne_eqb a i (λ e. let g = f (omega arith) (omega arith) in let n : true ≡ false = sym t ∙ (ap p e ∙ g) in absurd (cc)) in
        ap (λ c. value_from (cond c (v a) x) (entries_at p v (a + 1) n) i) other ∙ rest

hit : (p : ℕ → Bool) (v : ℕ → ℕ) (x a n i : ℕ) → a ≤ i → i < a + n → p i ≡ true → value_from x (entries_at p v a n) i ≡ v i
hit p v x a zero i l m t = absurd (omega arith)
hit p v x a (suc n) i l m t = ⊎_elim
    (λ (e : a ≡ i).
    let here : p a ≡ true = ap p e ∙ t in
    let same : (a == i) ≡ true = eq-eqb a i e in
    ap (λ b. value_from x (map (λ i. pair i (v i)) (cond b (a ∷ filter p (range_with_len (a + 1) n)) (filter p (range_with_len (a + 1) n)))) i) here
    ∙ (ap (λ c. value_from (cond c (v a) x) (entries_at p v (a + 1) n) i) same
    ∙ (missed p v (v a) (a + 1) n i (λ q r. absurd (omega arith)) ∙ ap v e)))
    (λ (ne : a ≡ i → ⊥).
    let above : a + 1 ≤ i = ⊎_elim (λ (k : a < i). omega arith) (λ (k : i ≤ a). absurd (ne (omega arith))) (cases_lt a i) in
    by (p a) (λ y. hit p v y (a + 1) n i above (omega arith) t))
    (cases_eq a i)
  where
    by : (b : Bool) → ((y : ℕ) → value_from y (entries_at p v (a + 1) n) i ≡ v i)
        → value_from x (map (λ i. pair i (v i)) (cond b (a ∷ filter p (range_with_len (a + 1) n)) (filter p (range_with_len (a + 1) n)))) i
        ≡ v i
    by true rest = rest (cond (a == i) (v a) x)
    by false rest = rest x

-- ---- what images write

written_from : (h : Shape) (ws : List RegPair) (i v : ℕ) → AllByRecursion (IsImageWrite h) ws → written_value ws i ≡ Some v
    → (i ≡ index_of Hwcfg0 → ⊥) → IsRewrite h (pair i v)
written_from h [] i v all e ne = absurd (let n : None ≡ Some v = e in cc)
written_from h (w ∷ ws) i v all e ne = by (written_value ws i) (w.index == i) refl refl (λ n q. written_from h ws i n all.1 q ne) e
  where
    one : IsImageWrite h w → w.index ≡ i → w.value ≡ v → IsRewrite h (pair i v)
    one (inl r) p q = let same : w ≡ pair i v = ap (λ j. pair j w.value) p ∙ ap (pair i) q in subst (IsRewrite h) same r
    one (inr t) p q = absurd (ne (sym p ∙ t))

    by : (o : Option ℕ) (b : Bool) → written_value ws i ≡ o → (w.index == i) ≡ b
        → ((n : ℕ) → written_value ws i ≡ Some n → IsRewrite h (pair i n)) → option_or o (cond b (Some w.value) None) ≡ Some v
        → IsRewrite h (pair i v)
    by (Some n) b p q again e = let same : n ≡ v = cc in subst (λ m. IsRewrite h (pair i m)) same (again n p)
    by None true p q again e = one all.0 (eqb-true w.index i q) (let same : w.value ≡ v = cc in same)
    by None false p q again e = absurd (let n : None ≡ Some v = e in cc)

zero_rewrite : (h : Shape) (i v : ℕ) → IsRewrite h (pair i v) → IsRewrite h (pair i 0)
zero_rewrite h i v (inl t) = inl (t.0, omega arith)
zero_rewrite h i v (inr p) = inr (record { alone = p.cleared; cleared = p.cleared; table = p.table; inside = p.inside; even = λ f s l e. refl })

beyond : (h : Shape) (ws : List RegPair) (i : ℕ) → AllByRecursion (IsImageWrite h) ws → index_count h ≤ i → written_value ws i ≡ None
beyond h ws i all l = by (written_value ws i) refl
  where
    one : (v : ℕ) → IsRewrite h (pair i v) → ⊥
    one v (inl t) = let e = t.0 in absurd (omega arith)
    one v (inr p) = let q = p.inside in absurd (omega arith)

    by : (o : Option ℕ) → written_value ws i ≡ o → o ≡ None
    by None e = refl
    by (Some v) e = absurd (one v (written_from h ws i v all e (λ f. absurd (omega arith))))

all_mapped : {A B : Type 0} (P : B → Type 0) (f : A → B) (q : A → Bool) (xs : List A) → ((x : A) → q x ≡ true → P (f x))
    → AllByRecursion P (map f (filter q xs))
all_mapped P f q [] each = tt
all_mapped P f q (x ∷ xs) each = by (q x) refl (all_mapped P f q xs each)
  where
    by : (b : Bool) → q x ≡ b → AllByRecursion P (map f (filter q xs)) → AllByRecursion P (map f (cond b (x ∷ filter q xs) (filter q xs)))
    by true e rest = (each x e, rest)
    by false e rest = rest

-- ---- together

not_hwcfg0 : (i : ℕ) (b : Bool) → (not (i == index_of Hwcfg0) && b) ≡ true → (i ≡ index_of Hwcfg0 → ⊥) × (b ≡ true)
not_hwcfg0 i b t = by (i == index_of Hwcfg0) refl t
  where
    by : (c : Bool) → (i == index_of Hwcfg0) ≡ c → (not c && b) ≡ true → (i ≡ index_of Hwcfg0 → ⊥) × (b ≡ true)
    by true e t = absurd (let n : false ≡ true = t in cc)
    by false e t = (eqb-false i (index_of Hwcfg0) e, t)

each_rewrite : (h : Shape) (old new : ImageOf) (i : ℕ) → AllByRecursion (IsImageWrite h) old.writes
    → AllByRecursion (IsImageWrite h) new.writes → is_rewritten old new i ≡ true → IsRewrite h (pair i (new_value new i))
each_rewrite h old new i all_old all_new t =
    let parts = not_hwcfg0 i (is_written old i || is_written new i) t in
    by (written_value new.writes i) (written_value old.writes i) refl refl parts.0 parts.1
  where
    by : (o p : Option ℕ) → written_value new.writes i ≡ o → written_value old.writes i ≡ p → (i ≡ index_of Hwcfg0 → ⊥)
        → (is_some p || is_some o) ≡ true → IsRewrite h (pair i (unwrap_or o 0))
    by (Some v) p e f ne s = written_from h new.writes i v all_new e ne
    by None (Some v) e f ne s = zero_rewrite h i v (written_from h old.writes i v all_old f ne)
    by None None e f ne s = absurd (let n : false ≡ true = s in cc)

untouched : (old new : ImageOf) (i : ℕ) → (i ≡ index_of Hwcfg0 → ⊥) → is_rewritten old new i ≡ false
    → (written_value old.writes i ≡ None) × (written_value new.writes i ≡ None)
untouched old new i ne t = by (written_value old.writes i) (written_value new.writes i) refl refl (sym (ap (λ b. not b && (is_written old i || is_written new i)) (ne_eqb i (index_of Hwcfg0) ne)) ∙ t)
  where
    by : (o p : Option ℕ) → written_value old.writes i ≡ o → written_value new.writes i ≡ p → (is_some o || is_some p) ≡ false
        → (written_value old.writes i ≡ None) × (written_value new.writes i ≡ None)
    by None None e f s = (e, f)
    by (Some v) p e f s = absurd (let n : true ≡ false = s in cc)
    by None (Some v) e f s = absurd (let n : true ≡ false = s in cc)

same_values : (h : Shape) (old new : ImageOf) → new.shape ≡ h → AllByRecursion (IsImageWrite h) old.writes
    → AllByRecursion (IsImageWrite h) new.writes → value_of old.writes (index_of Hwcfg0) ≡ value_of new.writes (index_of Hwcfg0)
    → (i : ℕ) → value_from (value_of old.writes i) (tables_between old new) i ≡ value_of new.writes i
same_values h old new shape all_old all_new enabling i = ⊎_elim
    (λ (e : i ≡ index_of Hwcfg0).
    missed (is_rewritten old new) (new_value new) (value_of old.writes i) 0 (index_count new.shape) i (λ l m. ap (λ j. is_rewritten old new j) e) ∙ subst (λ j. value_of old.writes j ≡ value_of new.writes j) (sym e) enabling)
    (λ (ne : i ≡ index_of Hwcfg0 → ⊥). ⊎_elim
    (λ (l : i < index_count new.shape). by (is_rewritten old new i) refl ne l)
    (λ (l : index_count new.shape ≤ i).
    let past : index_count h ≤ i = subst (λ z. index_count z ≤ i) shape l in
    missed (is_rewritten old new) (new_value new) (value_of old.writes i) 0 (index_count new.shape) i (λ p q. absurd (omega arith))
    ∙ (unwritten old.writes i (beyond h old.writes i all_old past) ∙ sym (unwritten new.writes i (beyond h new.writes i all_new past))))
    (cases_lt i (index_count new.shape)))
    (cases_eq i (index_of Hwcfg0))
  where
    by : (b : Bool) → is_rewritten old new i ≡ b → (i ≡ index_of Hwcfg0 → ⊥) → i < index_count new.shape
        → value_from (value_of old.writes i) (tables_between old new) i ≡ value_of new.writes i
    by true t ne l = hit (is_rewritten old new) (new_value new) (value_of old.writes i) 0 (index_count new.shape) i (omega arith) (omega arith) t ∙ sym (value_is 0 new.writes i)
    by false t ne l =
        let none = untouched old new i ne t in
        missed (is_rewritten old new) (new_value new) (value_of old.writes i) 0 (index_count new.shape) i (λ p q. t) ∙ (unwritten old.writes i none.0 ∙ sym (unwritten new.writes i none.1))

pub rewrites_between : (old new : PolicyOf) → IsPolicy old → IsPolicy new → old.shape ≡ new.shape → need_refusal old ≡ None
    → need_refusal new ≡ None
    → Rewrites old.shape (image_of old).writes (image_of new).writes (tables_between (image_of old) (image_of new))
rewrites_between old new good_old good_new shape fits_old fits_new =
    let all_old = image_each old good_old fits_old in
    let all_new = subst (λ h. AllByRecursion (IsImageWrite h) (image_of new).writes) (sym shape) (image_each new good_new fits_new) in
    record {
      each = all_mapped (IsRewrite old.shape) (λ i. pair i (new_value (image_of new) i)) (is_rewritten (image_of old) (image_of new)) (range_with_len 0 (index_count (image_of new).shape))
          (λ i t. each_rewrite old.shape (image_of old) (image_of new) i all_old all_new t);
      values = λ i. same_values old.shape (image_of old) (image_of new) (image_shape new ∙ sym shape) all_old all_new (image_enables old ∙ sym (image_enables new)) i;
    }
