-- A caller aims at the address of its last Aim.
use Rattle.std.proofs.Common.{◌≡◌, ℕ, suc, zero, ◌<◌, List, Option, Some, None, length, set, replicate, get_or, refl, sym, ap, ◌∙◌, subst, arith, ⊎_elim, get_or-set_same, get_or-set_other}
use Rattle.std.proofs.lemmas.Bool.{cases_eq}
use Rattle.std.proofs.lemmas.List.{length-set}
use Rattle.event_words.specs.declared.event.Event.{Event}
use Rattle.event_words.specs.declared.event.Event.TheVariants.{Aim}
use Rattle.unit_core.specs.Units.{aim_of, aims_after}
use Rattle.unit_core.specs.Histories.{History, aims_after_event, aims_at, aim_at, event_at}
use Rattle.unit_core.proofs.Openings.{get_zero}
use Rattle.history_laws.specs.Aims.{IsAim, KeepsAim, LawAims}

pub after_len : (aims : List ℕ) (e : Event) → length (aims_after aims e) ≡ length aims
after_len aims (Aim caller addr) = length-set aims caller addr
after_len aims _ = refl

event_len : (aims : List ℕ) (o : Option Event) → length (aims_after_event aims o) ≡ length aims
event_len aims None = refl
event_len aims (Some e) = after_len aims e

aims_len : (h : History) (k : ℕ) → length (aims_at h k) ≡ 32
aims_len h zero = refl
aims_len h (suc k) = event_len (aims_at h k) (event_at h k) ∙ aims_len h k

-- ---- the next place

-- An event that isn't an Aim of the caller leaves its aim.
stays : (h : History) (caller k : ℕ) → ((addr : ℕ) → event_at h k ≡ Some (Aim caller addr) → ⊥)
    → aim_at h (suc k) caller ≡ aim_at h k caller → KeepsAim h caller k → KeepsAim h caller (suc k)
stays h caller k not same before = record {
  aimed = λ j addr last. same ∙ before.aimed j addr (record {
    aim = record { event = last.aim.event; before = earlier j addr last.aim };
    last = λ i other a. last.last i other (record { event = a.event; before = omega (arith, a.before) });
  });
  none = λ none. same ∙ before.none (λ j addr a. none j addr (record { event = a.event; before = omega (arith, a.before) }));
}
  where
    earlier : (j addr : ℕ) → IsAim h caller (suc k) j addr → j < k
    earlier j addr a = ⊎_elim
        (λ (e : j ≡ k). absurd (not addr (subst (λ n. event_at h n ≡ Some (Aim caller addr)) e a.event)))
        (λ (ne : j ≡ k → ⊥). omega (arith, a.before, ne))
        (cases_eq j k)

same_address : (caller a b : ℕ) (o : Option Event) → o ≡ Some (Aim caller a) → o ≡ Some (Aim caller b) → a ≡ b
same_address caller a b o p q = let n : Some (Aim caller a) ≡ Some (Aim caller b) = sym p ∙ q in cc

-- An Aim of the caller is its last one.
moves : (h : History) (caller k addr : ℕ) → event_at h k ≡ Some (Aim caller addr) → aim_at h (suc k) caller ≡ addr
    → KeepsAim h caller (suc k)
moves h caller k addr here is = record {
  aimed = λ j other last.
      let own : IsAim h caller (suc k) k addr = record { event = here; before = omega arith } in
      let e : j ≡ k = omega (arith, last.last k addr own, last.aim.before) in
      is ∙ same_address caller addr other (event_at h k) here (subst (λ n. event_at h n ≡ Some (Aim caller other)) e last.aim.event);
  none = λ none. absurd (none k addr (record { event = here; before = omega arith }));
}

-- ---- every place

-- where the caller aims after the event of a place
aim_then : (h : History) (caller k : ℕ) (o : Option Event) → event_at h k ≡ o
    → aim_at h (suc k) caller ≡ aim_of (aims_after_event (aims_at h k) o) caller
aim_then h caller k o q = ap (λ p. aim_of (aims_after_event (aims_at h k) p) caller) q

next : (h : History) (caller k : ℕ) → caller < 32 → KeepsAim h caller k → (o : Option Event) → event_at h k ≡ o → KeepsAim h caller (suc k)
next h caller k small before None q =
    stays h caller k (λ addr p. let n : None ≡ Some (Aim caller addr) = sym q ∙ p in cc) (aim_then h caller k None q) before
next h caller k small before (Some (Aim c addr)) q = ⊎_elim
    (λ (e : c ≡ caller). moves h caller k addr (q ∙ ap (λ d. Some (Aim d addr)) e)
    (aim_then h caller k (Some (Aim c addr)) q
    ∙ subst (λ d. aim_of (set (aims_at h k) d addr) caller ≡ addr) (sym e) (get_or-set_same (aims_at h k) caller addr 0 (omega (arith, small, aims_len h k)))))
    (λ (ne : c ≡ caller → ⊥). stays h caller k
    (λ other p. let n : Some (Aim c addr) ≡ Some (Aim caller other) = sym q ∙ p in let m : c ≡ caller = cc in ne m)
    (aim_then h caller k (Some (Aim c addr)) q ∙ get_or-set_other (aims_at h k) c caller addr 0 (λ e. ne (sym e))) before)
    (cases_eq c caller)
next h caller k small before (Some e) q =
    stays h caller k (λ addr p. let n : Some e ≡ Some (Aim caller addr) = sym q ∙ p in cc) (aim_then h caller k (Some e) q) before

pub law_aims : LawAims
law_aims h caller zero small = record { aimed = λ j addr last. absurd (omega (arith, last.aim.before)); none = λ none. get_zero 32 caller }
law_aims h caller (suc k) small = next h caller k small (law_aims h caller k small) (event_at h k) refl
