-- What one step does to the open submission of a place.
use Rattle.std.proofs.Common.{◌≡◌, ℕ, ◌<◌, ◌++◌, Bool, true, false, cond, eqb, List, [], ◌∷◌, Some, None, map, find, filter, refl, sym, ap, ◌∙◌, subst, arith, ⊎_elim, ◌⊎◌, inl, inr}
use Rattle.std.specs.List.{AllByRecursion}
use Rattle.std.proofs.lemmas.Bool.{cond_both, cond-true, cond-false, eqb-true, eq-eqb, ne_eqb, and_parts, and_from, and_left, and_right, cases_eq}
use Rattle.std.proofs.lemmas.List.Elements.{filter-append}
use Rattle.event_words.specs.declared.access.Access.{Access}
use Rattle.event_words.specs.declared.event.Event.{Event}
use Rattle.event_words.specs.declared.event.Event.TheVariants.{RegWrite, RegRead, Submit, Judge, Aim, Wide}
use Rattle.event_words.specs.declared.reply.Reply.{Reply}
use Rattle.event_words.specs.declared.reply.Reply.TheVariants as replies
use Rattle.event_words.specs.declared.reply.Verdict.{Verdict}
use Rattle.event_words.specs.Stalls.{flags_after}
use Rattle.unit_core.specs.declared.Submission.{Submission}
use Rattle.unit_core.specs.Submissions.{released_item, is_item, without_item}
use Rattle.event_words.specs.Events.{unit_of}
use Rattle.unit_core.specs.Units.{UnitState, unit_step, judge_step}
use Rattle.history_laws.specs.Tickets.{is_at, StandsOnce}
use Rattle.unit_core.proofs.Items.{submit_cases, judge_cases, released_cases}

-- ---- the items of one place

abbrev pub at : ℕ → List Submission → List Submission
at p xs = filter (is_at p) xs

abbrev pub IsBelow : ℕ → Submission → Type 0
IsBelow k item = item.place < k

pub at_none : (p : ℕ) (xs : List Submission) → AllByRecursion (IsBelow p) xs → at p xs ≡ []
at_none p [] h = refl
at_none p (x ∷ xs) h =
    cond-false (eqb x.place p) (x ∷ at p xs) (at p xs) (ne_eqb x.place p (λ e. absurd (let l = h.0 in omega arith))) ∙ at_none p xs h.1

at_released : (p : ℕ) (flags : List Bool) (xs : List Submission) → at p (map (released_item flags) xs) ≡ map (released_item flags) (at p xs)
at_released p flags [] = refl
at_released p flags (x ∷ xs) = released_cases (λ y. released_item flags x ≡ y → at p (y ∷ map (released_item flags) xs) ≡ map (released_item flags) (at p (x ∷ xs))) flags x (λ e. place_stays (at_released p flags xs) x refl) (λ e. place_stays (at_released p flags xs) (record x { queued = false }) refl) refl
  where
    place_stays : at p (map (released_item flags) xs) ≡ map (released_item flags) (at p xs) → (y : Submission) → y.place ≡ x.place
        → released_item flags x ≡ y → at p (y ∷ map (released_item flags) xs) ≡ map (released_item flags) (at p (x ∷ xs))
    place_stays rest y same is =
        ap (λ n. cond (eqb n p) (y ∷ at p (map (released_item flags) xs)) (at p (map (released_item flags) xs))) same
        ∙ elim (eqb x.place p) as (λ b. cond b (y ∷ at p (map (released_item flags) xs)) (at p (map (released_item flags) xs)) ≡ map (released_item flags) (cond b (x ∷ at p xs) (at p xs))) [
          | true ↦ ap (λ z. z ∷ at p (map (released_item flags) xs)) (sym is) ∙ ap (λ ys. released_item flags x ∷ ys) rest
          | false ↦ rest
        ]

at_other : (p : ℕ) (xs : List Submission) (y : Submission) → (y.place ≡ p → ⊥) → at p (xs ++ y ∷ []) ≡ at p xs
at_other p [] y ne = cond-false (eqb y.place p) (y ∷ []) [] (ne_eqb y.place p ne)
at_other p (x ∷ xs) y ne = ap (λ ys. cond (eqb x.place p) (x ∷ ys) ys) (at_other p xs y ne)

pub at_own : (p : ℕ) (xs : List Submission) (y : Submission) → y.place ≡ p → at p xs ≡ [] → at p (xs ++ y ∷ []) ≡ y ∷ []
at_own p xs y e h =
    filter-append (is_at p) xs (y ∷ []) ∙ ap (λ ys. ys ++ at p (y ∷ [])) h ∙ cond-true (eqb y.place p) (y ∷ []) [] (eq-eqb y.place p e)

at_without : (p place caller : ℕ) (xs : List Submission) → (place ≡ p → ⊥) → at p (without_item place caller xs) ≡ at p xs
at_without p place caller [] ne = refl
at_without p place caller (x ∷ xs) ne =
    cond_both (is_item place caller x) xs (x ∷ without_item place caller xs) (λ ys. at p ys ≡ at p (x ∷ xs))
    (λ t. sym (cond-false (eqb x.place p) (x ∷ at p xs) (at p xs) (ne_eqb x.place p (λ e. ne (sym (eqb-true x.place place (and_parts (eqb x.place place) (eqb x.caller caller) t).0) ∙ e)))))
    (λ t. ap (λ ys. cond (eqb x.place p) (x ∷ ys) ys) (at_without p place caller xs ne))

none_found : (p caller : ℕ) (xs : List Submission) → at p xs ≡ [] → find (is_item p caller) xs ≡ None
none_found p caller [] h = refl
none_found p caller (x ∷ xs) h =
    cond_both (eqb x.place p) (x ∷ at p xs) (at p xs) (λ ys. ys ≡ [] → cond (eqb x.place p) (x ∷ at p xs) (at p xs) ≡ ys → find (is_item p caller) (x ∷ xs) ≡ None)
    (λ t e q. absurd (let n : (x ∷ at p xs) ≡ [] = e in cc))
    (λ t e q. cond-false (is_item p caller x) (Some x) (find (is_item p caller) xs) (and_left (eqb x.place p) (eqb x.caller caller) t) ∙ none_found p caller xs e) h refl

other_caller : (p caller : ℕ) (xs : List Submission) (y : Submission) → at p xs ≡ y ∷ [] → (y.caller ≡ caller → ⊥)
    → find (is_item p caller) xs ≡ None
other_caller p caller [] y h ne = refl
other_caller p caller (x ∷ xs) y h ne =
    cond_both (eqb x.place p) (x ∷ at p xs) (at p xs) (λ ys. ys ≡ y ∷ [] → find (is_item p caller) (x ∷ xs) ≡ None)
    (λ t e. let same : x ≡ y = cc in let rest : at p xs ≡ [] = cc in
    cond-false (is_item p caller x) (Some x) (find (is_item p caller) xs) (and_right (eqb x.place p) (eqb x.caller caller) (ne_eqb x.caller caller (λ c. ne (ap (λ (z : Submission). z.caller) (sym same) ∙ c))))
    ∙ none_found p caller xs rest)
    (λ t e. cond-false (is_item p caller x) (Some x) (find (is_item p caller) xs) (and_left (eqb x.place p) (eqb x.caller caller) t) ∙ other_caller p caller xs y e ne) h

own_caller : (p caller : ℕ) (xs : List Submission) (y : Submission) → at p xs ≡ y ∷ [] → y.caller ≡ caller
    → (find (is_item p caller) xs ≡ Some y) × (at p (without_item p caller xs) ≡ [])
own_caller p caller [] y h c = absurd (let n : [] ≡ y ∷ [] = h in cc)
own_caller p caller (x ∷ xs) y h c =
    cond_both (eqb x.place p) (x ∷ at p xs) (at p xs) (λ ys. ys ≡ y ∷ [] → (find (is_item p caller) (x ∷ xs) ≡ Some y) × (at p (without_item p caller (x ∷ xs)) ≡ []))
    (λ t e. let same : x ≡ y = cc in let rest : at p xs ≡ [] = cc in
    let b = and_from (eqb x.place p) (eqb x.caller caller) t (eq-eqb x.caller caller (ap (λ (z : Submission). z.caller) same ∙ c)) in (
      cond-true (is_item p caller x) (Some x) (find (is_item p caller) xs) b ∙ ap (λ z. Some z) same,
      ap (at p) (cond-true (is_item p caller x) xs (x ∷ without_item p caller xs) b) ∙ rest,
    ))
    (λ t e. let b = and_left (eqb x.place p) (eqb x.caller caller) t in
    let ih = own_caller p caller xs y e c in (
      cond-false (is_item p caller x) (Some x) (find (is_item p caller) xs) b ∙ ih.0,
      ap (at p) (cond-false (is_item p caller x) xs (x ∷ without_item p caller xs) b)
          ∙ cond-false (eqb x.place p) (x ∷ at p (without_item p caller xs)) (at p (without_item p caller xs)) t ∙ ih.1,
    )) h

-- ---- one step

-- It stands on, and its judgement is replied Held; or its judgement is replied a verdict, and it is gone.
pub record Stays (p c u : ℕ) (a : Access) (e : Event) (r : UnitState × Reply) : Type 0 where
  pub stands : StandsOnce p c a r.0
  pub held : e ≡ Judge u c p → r.1 ≡ replies.Held

pub record Closes (p c u : ℕ) (a : Access) (e : Event) (r : UnitState × Reply) : Type 0 where
  pub gone : at p r.0.submissions ≡ []
  pub event : e ≡ Judge u c p
  pub verdict : Verdict
  pub reply : r.1 ≡ replies.Verdict verdict

abbrev Outcome : ℕ → ℕ → ℕ → Access → Event → UnitState × Reply → Type 0
Outcome p c u a e r = Stays p c u a e r ⊎ Closes p c u a e r

judged_elsewhere : (p c u : ℕ) (a : Access) (x : UnitState) (unit caller place : ℕ) → (place ≡ p → ⊥) → StandsOnce p c a x
    → Outcome p c u a (Judge unit caller place) (judge_step x place caller)
judged_elsewhere p c u a x unit caller place ne h =
    let no = λ (r : Reply) (q : Judge unit caller place ≡ Judge u c p). absurd {A = r ≡ replies.Held} (ne cc) in
    judge_cases (Outcome p c u a (Judge unit caller place)) x place caller
    (λ e. inl (record { stands = h; held = no _ }))
    (λ item e f. inl (record { stands = h; held = no _ }))
    (λ item e f v. inl (record { stands = (h.0, at_without p place caller x.submissions ne ∙ h.1); held = no _ }))
    (λ item e f d v. inl (record { stands = (h.0, at_without p place caller x.submissions ne ∙ h.1); held = no _ }))

judged_by_other : (p c u : ℕ) (a : Access) (x : UnitState) (unit caller : ℕ) → (caller ≡ c → ⊥) → StandsOnce p c a x
    → Outcome p c u a (Judge unit caller p) (judge_step x p caller)
judged_by_other p c u a x unit caller ne h =
    let none = other_caller p caller x.submissions _ h.1 (λ e. ne (sym e)) in
    let no = λ (r : Reply) (q : Judge unit caller p ≡ Judge u c p). absurd {A = r ≡ replies.Held} (ne cc) in
    judge_cases (Outcome p c u a (Judge unit caller p)) x p caller
    (λ e. inl (record { stands = h; held = no _ }))
    (λ item e f. absurd (let n : None ≡ Some item = sym none ∙ e in cc))
    (λ item e f v. absurd (let n : None ≡ Some item = sym none ∙ e in cc))
    (λ item e f d v. absurd (let n : None ≡ Some item = sym none ∙ e in cc))

judged_own : (p c u : ℕ) (a : Access) (x : UnitState) (unit : ℕ) → unit ≡ u → StandsOnce p c a x
    → Outcome p c u a (Judge unit c p) (judge_step x p c)
judged_own p c u a x unit t h =
    let found = own_caller p c x.submissions _ h.1 refl in
    let event : Judge unit c p ≡ Judge u c p = cc in
    judge_cases (Outcome p c u a (Judge unit c p)) x p c
    (λ e. absurd (let n = sym found.0 ∙ e in cc))
    (λ item e f. inl (record { stands = h; held = λ q. refl }))
    (λ item e f v. inr (record { gone = found.1; event = event; verdict = v; reply = refl }))
    (λ item e f d v. inr (record { gone = found.1; event = event; verdict = v; reply = refl }))

released_once : (p c : ℕ) (a : Access) (flags : List Bool) (xs : List Submission) (queued : Bool)
    → at p xs ≡ record { place = p; caller = c; access = a; queued = queued } ∷ []
    → (now : Bool) × (at p (map (released_item flags) xs) ≡ record { place = p; caller = c; access = a; queued = now } ∷ [])
released_once p c a flags xs queued h =
    let item : Submission = record { place = p; caller = c; access = a; queued = queued } in
    let is = at_released p flags xs ∙ ap (map (released_item flags)) h in
    released_cases (λ y. at p (map (released_item flags) xs) ≡ y ∷ [] → (now : Bool) × (at p (map (released_item flags) xs) ≡ record { place = p; caller = c; access = a; queued = now } ∷ [])) flags item
    (λ e q. (queued, q)) (λ e q. (false, q)) is

pub ticket_step : (p c u k : ℕ) (a : Access) (x : UnitState) (e : Event) → p < k → unit_of e ≡ Some u → StandsOnce p c a x
    → Stays p c u a e (unit_step k x e) ⊎ Closes p c u a e (unit_step k x e)
ticket_step p c u k a x (RegWrite unit caller index value) l t h =
    inl (record {
      stands = released_once p c a (flags_after x.registers x.flags index value) x.submissions h.0 h.1;
      held = λ q. absurd (let n : RegWrite unit caller index value ≡ Judge u c p = q in cc);
    })
ticket_step p c u k a x (RegRead unit caller index) l t h =
    inl (record { stands = h; held = λ q. absurd (let n : RegRead unit caller index ≡ Judge u c p = q in cc) })
ticket_step p c u k a x (Submit unit caller access) l t h =
    let no = λ (r : Reply) (q : Submit unit caller access ≡ Judge u c p). absurd {A = r ≡ replies.Held} (let n : Submit unit caller access ≡ Judge u c p = q in cc) in
    let ne = λ (e : k ≡ p). absurd {A = ⊥} (omega arith) in
    submit_cases (λ r. Stays p c u a (Submit unit caller access) r ⊎ Closes p c u a (Submit unit caller access) r) k x caller access
    (λ e. inl (record { stands = (h.0, at_other p x.submissions _ ne ∙ h.1); held = no _ }))
    (λ e f. inl (record { stands = (h.0, at_other p x.submissions _ ne ∙ h.1); held = no _ }))
    (λ d. inl (record { stands = h; held = no _ }))
    (inl (record { stands = h; held = no _ }))
ticket_step p c u k a x (Judge unit caller place) l t h = ⊎_elim
    (λ (same : place ≡ p). ⊎_elim
    (λ (mine : caller ≡ c). subst (λ d. Outcome p c u a (Judge unit d place) (judge_step x place d)) (sym mine) (subst (λ q. Outcome p c u a (Judge unit c q) (judge_step x q c)) (sym same) (judged_own p c u a x unit (let n : unit ≡ u = cc in n) h)))
    (λ (ne : caller ≡ c → ⊥). subst (λ q. Outcome p c u a (Judge unit caller q) (judge_step x q caller)) (sym same) (judged_by_other p c u a x unit caller ne h))
    (cases_eq caller c))
    (λ (ne : place ≡ p → ⊥). judged_elsewhere p c u a x unit caller place ne h)
    (cases_eq place p)
ticket_step p c u k a x (Aim caller addr) l t h =
    inl (record { stands = h; held = λ q. absurd (let n : Aim caller addr ≡ Judge u c p = q in cc) })
ticket_step p c u k a x (Wide unit caller rrid kind len) l t h =
    inl (record { stands = h; held = λ q. absurd (let n : Wide unit caller rrid kind len ≡ Judge u c p = q in cc) })

pub record StaysGone (p c u : ℕ) (e : Event) (r : UnitState × Reply) : Type 0 where
  pub gone : at p r.0.submissions ≡ []
  pub none : e ≡ Judge u c p → r.1 ≡ replies.NoSuch

pub gone_step : (p c u k : ℕ) (x : UnitState) (e : Event) → p < k → at p x.submissions ≡ [] → StaysGone p c u e (unit_step k x e)
gone_step p c u k x (RegWrite unit caller index value) l h = record {
  gone = at_released p (flags_after x.registers x.flags index value) x.submissions ∙ ap (map (released_item (flags_after x.registers x.flags index value))) h;
  none = λ q. absurd (let n : RegWrite unit caller index value ≡ Judge u c p = q in cc);
}
gone_step p c u k x (RegRead unit caller index) l h = record { gone = h; none = λ q. absurd (let n : RegRead unit caller index ≡ Judge u c p = q in cc) }
gone_step p c u k x (Submit unit caller access) l h =
    let no = λ (r : Reply) (q : Submit unit caller access ≡ Judge u c p). absurd {A = r ≡ replies.NoSuch} (let n : Submit unit caller access ≡ Judge u c p = q in cc) in
    let ne = λ (e : k ≡ p). absurd {A = ⊥} (omega arith) in
    submit_cases (StaysGone p c u (Submit unit caller access)) k x caller access
    (λ e. record { gone = at_other p x.submissions _ ne ∙ h; none = no _ })
    (λ e f. record { gone = at_other p x.submissions _ ne ∙ h; none = no _ })
    (λ d. record { gone = h; none = no _ })
    (record { gone = h; none = no _ })
gone_step p c u k x (Judge unit caller place) l h = ⊎_elim
    (λ (same : place ≡ p).
    let none = none_found p caller x.submissions h in
    subst (λ q. StaysGone p c u (Judge unit caller q) (judge_step x q caller)) (sym same)
    (judge_cases (StaysGone p c u (Judge unit caller p)) x p caller
    (λ e. record { gone = h; none = λ q. refl })
    (λ item e f. absurd (let n : None ≡ Some item = sym none ∙ e in cc))
    (λ item e f v. absurd (let n : None ≡ Some item = sym none ∙ e in cc))
    (λ item e f d v. absurd (let n : None ≡ Some item = sym none ∙ e in cc))))
    (λ (ne : place ≡ p → ⊥).
    let no = λ (r : Reply) (q : Judge unit caller place ≡ Judge u c p). absurd {A = r ≡ replies.NoSuch} (ne cc) in
    judge_cases (StaysGone p c u (Judge unit caller place)) x place caller
    (λ e. record { gone = h; none = no _ })
    (λ item e f. record { gone = h; none = no _ })
    (λ item e f v. record { gone = at_without p place caller x.submissions ne ∙ h; none = no _ })
    (λ item e f d v. record { gone = at_without p place caller x.submissions ne ∙ h; none = no _ }))
    (cases_eq place p)
gone_step p c u k x (Aim caller addr) l h = record { gone = h; none = λ q. absurd (let n : Aim caller addr ≡ Judge u c p = q in cc) }
gone_step p c u k x (Wide unit caller rrid kind len) l h =
    record { gone = h; none = λ q. absurd (let n : Wide unit caller rrid kind len ≡ Judge u c p = q in cc) }
