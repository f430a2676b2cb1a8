-- Units answer NoSuch exactly where a word finds nothing, and stay then.
use Rattle.std.proofs.Common.{◌≡◌, ℕ, ◌+◌, ◌^◌, ◌<◌, ◌≤◌, ◌⊎◌, inl, inr, true, false, leb, eqb, List, [], ◌∷◌, Option, Some, None, length, find, set, refl, sym, ap, ◌∙◌, subst, arith, ⊎_elim}
use Rattle.std.specs.Prelude.{slice_get, IfSome}
use Rattle.std.specs.List.{AllByRecursion}
use Rattle.std.proofs.lemmas.Bool.{cond_both, leb-true, leb-false, eqb-true, eq-eqb, and_parts, and_from}
use Rattle.std.proofs.lemmas.List.{set-get_or}
use Rattle.std.proofs.lemmas.List.Elements.{All-from_recursion, recursion_from_All}
use Rattle.std.proofs.lemmas.Option.{slice_get_cases, slice_get_within, get_or_from_slice_get}
use Rattle.event_words.specs.declared.access.Access.{Access}
use Rattle.event_words.specs.declared.event.Event.{Event}
use Rattle.event_words.specs.declared.event.Event.TheVariants.{RegWrite, RegRead, Submit, Judge, Aim, Wide}
use Rattle.event_words.specs.declared.reply.Reply.{Reply}
use Rattle.event_words.specs.declared.reply.Reply.TheVariants as replies
use Rattle.event_words.specs.Word.{event_of_word}
use Rattle.unit_core.specs.declared.Submission.{Submission}
use Rattle.unit_core.specs.Submissions.{is_item}
use Rattle.unit_core.specs.Units.{UnitState, FabricState, aim_of, wide_access, unit_step, submit_step, step_at, taken_step, fabric_step, decoded_step}
use Rattle.unit_core.proofs.Items.{submit_cases, judge_cases, all_found}
use Rattle.history_laws.specs.NothingFound.{HasNoneOpen, FindsNothing, LawNoSuch}

-- A step answers NoSuch, changes nothing and is such a one, or it answers otherwise and is none.
abbrev Decided : {S : Type 0} → S → S × Reply → Type 0 → Type 0
Decided s r C = ((r ≡ (s, replies.NoSuch)) × C) ⊎ ((r.1 ≡ replies.NoSuch → ⊥) × (C → ⊥))

-- ---- the submissions of a place

abbrev IsOther : ℕ → ℕ → Submission → Type 0
IsOther place caller item = item.place ≡ place → item.caller ≡ caller → ⊥

others : (place caller : ℕ) (xs : List Submission) → find (is_item place caller) xs ≡ None → AllByRecursion (IsOther place caller) xs
others place caller [] h = tt
others place caller (x ∷ xs) h =
    cond_both (is_item place caller x) (Some x) (find (is_item place caller) xs) (λ o. o ≡ None → AllByRecursion (IsOther place caller) (x ∷ xs))
    (λ t e. absurd (let n : Some x ≡ None = e in cc))
    (λ t e. (λ p c. let n : true ≡ false = sym (and_from (eqb x.place place) (eqb x.caller caller) (eq-eqb x.place place p) (eq-eqb x.caller caller c)) ∙ t in cc, others place caller xs e)) h

found_open : (place caller : ℕ) (x : UnitState) (item : Submission) → find (is_item place caller) x.submissions ≡ Some item
    → HasNoneOpen place caller x → ⊥
found_open place caller x item e none =
    let f = all_found (IsOther place caller) (is_item place caller) x.submissions item e (recursion_from_All (IsOther place caller) x.submissions none) in
    let b = and_parts (eqb item.place place) (eqb item.caller caller) f.1 in
    f.0 (eqb-true item.place place b.0) (eqb-true item.caller caller b.1)

-- A submission is always answered otherwise.
submitted : (p : ℕ) (x : UnitState) (caller : ℕ) (a : Access) (C : Type 0) → (C → ⊥) → Decided x (submit_step p x caller a) C
submitted p x caller a C not = submit_cases (λ r. Decided x r C) p x caller a
    (λ f. inr (λ r. let n : replies.Passed ≡ replies.NoSuch = r in cc, not))
    (λ f g. inr (λ r. let n : replies.Queued ≡ replies.NoSuch = r in cc, not))
    (λ d. inr (λ r. let n : replies.Stalled d ≡ replies.NoSuch = r in cc, not))
    (inr (λ r. let n : replies.Busy ≡ replies.NoSuch = r in cc, not))

-- ---- a step on a unit

abbrev whole : FabricState → List UnitState × Reply → FabricState × Reply
whole s r = (record { units = r.0; aims = s.aims }, r.1)

set_itself : (us : List UnitState) (u : ℕ) (x : UnitState) → slice_get us u ≡ Some x → set us u x ≡ us
set_itself us u x q = subst (λ y. set us u y ≡ us) (get_or_from_slice_get us u x x q) (set-get_or us u x)

past : (us : List UnitState) (u : ℕ) → slice_get us u ≡ None → length us ≤ u
past us u q = ⊎_elim {C = length us ≤ u}
    (λ c. absurd (let n : Some c.0 ≡ None = sym c.2 ∙ q in cc)) (λ c. c.0) (slice_get_cases us u).1

-- An event on a unit does what it does there, where the unit is there.
by_unit : (s : FabricState) (p : ℕ) (e : Event) (u : ℕ) (C : Type 0) (o : Option UnitState) → slice_get s.units u ≡ o
    → (length s.units ≤ u → C)
    → ((x : UnitState) → u < length s.units → slice_get s.units u ≡ Some x → Decided x (unit_step p x e) C)
    → Decided s (whole s (step_at p s.units e u o)) C
by_unit s p e u C None q none some = inl (refl, none (past s.units u q))
by_unit s p e u C (Some x) q none some = ⊎_elim {C = Decided s (whole s (step_at p s.units e u (Some x))) C}
    (λ (same : (unit_step p x e ≡ (x, replies.NoSuch)) × C). inl (
      ap (λ (r : UnitState × Reply). whole s (set s.units u r.0, r.1)) same.0 ∙ ap (λ us. whole s (us, replies.NoSuch)) (set_itself s.units u x q),
      same.1,
    ))
    (λ (other : ((unit_step p x e).1 ≡ replies.NoSuch → ⊥) × (C → ⊥)). inr other)
    (some x (slice_get_within s.units u x q) q)

on_unit : (s : FabricState) (p : ℕ) (e : Event) (u : ℕ) (C : Type 0) → (length s.units ≤ u → C)
    → ((x : UnitState) → u < length s.units → slice_get s.units u ≡ Some x → Decided x (unit_step p x e) C)
    → Decided s (whole s (step_at p s.units e u (slice_get s.units u))) C
on_unit s p e u C none some = by_unit s p e u C (slice_get s.units u) refl none some

-- ---- each event

not_absent : (A B C : Type 0) → (A → ⊥) → (B → ⊥) → (C → ⊥) → ((A ⊎ B) ⊎ C) → ⊥
not_absent A B C a b c = ⊎_elim (⊎_elim a b) c

decide : (p : ℕ) (s : FabricState) (e : Event) → Decided s (fabric_step p s e) (FindsNothing s (Some e))
decide p s (Aim caller addr) =
    inr (λ q. let n : replies.Aimed ≡ replies.NoSuch = q in cc, not_absent _ _ _ (λ b. b) (λ b. b) (λ b. b))
decide p s (RegWrite unit caller index value) =
    let e = RegWrite unit caller index value in
    on_unit s p e unit (FindsNothing s (Some e)) (λ l. inl (inl l))
    (λ x l q. inr (λ r. let n : replies.Value _ ≡ replies.NoSuch = r in cc, not_absent _ _ _ (λ m. omega (arith, l, m)) (λ b. b) (λ b. b)))
decide p s (RegRead unit caller index) =
    let e = RegRead unit caller index in
    on_unit s p e unit (FindsNothing s (Some e)) (λ l. inl (inl l))
    (λ x l q. inr (λ r. let n : replies.Value _ ≡ replies.NoSuch = r in cc, not_absent _ _ _ (λ m. omega (arith, l, m)) (λ b. b) (λ b. b)))
decide p s (Submit unit caller a) =
    let e = Submit unit caller a in
    on_unit s p e unit (FindsNothing s (Some e)) (λ l. inl (inl l))
    (λ x l q. let not = not_absent (length s.units ≤ unit) ⊥ ⊥ (λ m. omega (arith, l, m)) (λ b. b) (λ b. b) in submitted p x caller a (FindsNothing s (Some e)) not)
decide p s (Judge unit caller place) =
    let e = Judge unit caller place in
    let C = FindsNothing s (Some e) in
    on_unit s p e unit C (λ l. inl (inl l))
    (λ x l q. let not = λ (item : Submission) (f : find (is_item place caller) x.submissions ≡ Some item).
    not_absent (length s.units ≤ unit) (IfSome (slice_get s.units unit) (HasNoneOpen place caller)) ⊥
    (λ m. omega (arith, l, m)) (λ none. found_open place caller x item f (subst (λ o. IfSome o (HasNoneOpen place caller)) q none)) (λ b. b) in
    judge_cases (λ r. Decided x r C) x place caller
    (λ f. inl (refl, inl (inr (subst (λ o. IfSome o (HasNoneOpen place caller)) (sym q) (All-from_recursion (IsOther place caller) x.submissions (others place caller x.submissions f))))))
    (λ item f h. inr (λ r. let n : replies.Held ≡ replies.NoSuch = r in cc, not item f))
    (λ item f h v. inr (λ r. let n : replies.Verdict v ≡ replies.NoSuch = r in cc, not item f))
    (λ item f h d v. inr (λ r. let n : replies.Verdict v ≡ replies.NoSuch = r in cc, not item f)))
decide p s (Wide unit caller rrid kind len) =
    let a = wide_access s.aims caller rrid kind len in
    let C = FindsNothing s (Some (Wide unit caller rrid kind len)) in
    cond_both (leb (a.addr + a.len) (2 ^ 52)) (Some (Submit unit caller a)) None (λ o. Decided s (whole s (taken_step p s.units o)) C)
    (λ t. on_unit s p (Submit unit caller a) unit C (λ l. inl (inl l))
    (λ x l q. let not = not_absent (length s.units ≤ unit) ⊥ (2 ^ 52 < aim_of s.aims caller + len) (λ m. omega (arith, l, m)) (λ b. b) (λ m. let le = leb-true (a.addr + a.len) (2 ^ 52) t in omega (arith, le, m)) in submitted p x caller a C not))
    (λ t. inl (refl, inr (leb-false (a.addr + a.len) (2 ^ 52) t)))

decide_word : (p : ℕ) (s : FabricState) (o : Option Event) → Decided s (decoded_step p s o) (FindsNothing s o)
decide_word p s None = inl (refl, tt)
decide_word p s (Some e) = decide p s e

pub law_no_such : LawNoSuch
law_no_such s place word = ⊎_elim
    (λ (same : (decoded_step place s (event_of_word word) ≡ (s, replies.NoSuch)) × FindsNothing s (event_of_word word)). record {
      exactly = (λ q. same.1, λ c. ap (λ (r : FabricState × Reply). r.1) same.0);
      stays = λ q. ap (λ (r : FabricState × Reply). r.0) same.0;
    })
    (λ (other : ((decoded_step place s (event_of_word word)).1 ≡ replies.NoSuch → ⊥) × (FindsNothing s (event_of_word word) → ⊥)). record {
      exactly = (λ q. absurd (other.0 q), λ c. absurd (other.1 c));
      stays = λ q. absurd (other.0 q);
    })
    (decide_word place s (event_of_word word))
