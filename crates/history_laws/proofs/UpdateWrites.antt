-- What an update's writes leave: the old policy's values while requesters stall, and the new one's at the end.
use Rattle.std.proofs.Common.{◌≡◌, ℕ, ◌<◌, inl, inr, None, List, [], ◌∷◌, ◌++◌, refl, sym, ap, subst, ◌∙◌, arith, append_assoc, ◌+◌}
use Rattle.std.specs.List.{AllByRecursion}
use Rattle.std.proofs.lemmas.List.{append-nil}
use Rattle.event_words.specs.Registers.{index_of}
use Rattle.event_words.specs.declared.register.Register.TheVariants.{Hwcfg0, Hwcfg2, Mdstall, Rridscp, Entrylck}
use Rattle.event_words.specs.declared.shape.Shape.{Shape}
use Rattle.event_words.proofs.ListItems.{all_append}
use Rattle.policy_compiler.specs.declared.image.RegPair.{RegPair}
use Rattle.policy_compiler.specs.Policies.{PolicyOf, IsPolicy}
use Rattle.policy_compiler.specs.Needs.{need_refusal}
use Rattle.policy_compiler.specs.Images.{image_of}
use Rattle.policy_compiler.proofs.Standing.{value_from, value_of, value_append, value_other, IsRewrite, IsStall, IsTame, AreNext}
use Rattle.policy_compiler.proofs.Decisive.{SameValues, IsImageWrite, image_each}
use Rattle.history_laws.proofs.WriteRecords.{release_write}
use Rattle.history_laws.proofs.PlanParts.{IsUpdate, AreNot, value_kept, StallNobody, StallsNobody}

-- Writes that bring what the old ones left to what the new ones leave.
pub record Rewrites (h : Shape) (old new tables : List RegPair) : Type 0 where
  pub each : AllByRecursion (IsRewrite h) tables
  pub values : (i : ℕ) → value_from (value_of old i) tables i ≡ value_of new i

-- ---- which registers they are

-- none of a register up to the locks but HWCFG2
pub rewrites_not : (h : Shape) (ws : List RegPair) (i : ℕ) → i < index_of Entrylck + 1 → (i ≡ index_of Hwcfg2 → ⊥)
    → AllByRecursion (IsRewrite h) ws → AreNot i ws
rewrites_not h [] i l ne all = tt
rewrites_not h (w ∷ ws) i l ne all = (one all.0, rewrites_not h ws i l ne all.1)
  where
    one : IsRewrite h w → w.index ≡ i → ⊥
    one (inl t) e = let f = t.0 in ne (omega arith)
    one (inr p) e = let t = p.table in absurd (omega arith)

pub rewrites_stall_nobody : (h : Shape) (ws : List RegPair) → AllByRecursion (IsRewrite h) ws → StallNobody ws
rewrites_stall_nobody h [] all = tt
rewrites_stall_nobody h (w ∷ ws) all = ((one (index_of Mdstall) (omega arith) (λ e. absurd (omega arith)), one (index_of Rridscp) (omega arith) (λ e. absurd (omega arith))), rewrites_stall_nobody h ws all.1)
  where
    one : (i : ℕ) → i < index_of Entrylck + 1 → (i ≡ index_of Hwcfg2 → ⊥) → w.index ≡ i → ⊥
    one i l ne = (rewrites_not h (w ∷ []) i l ne (all.0, tt)).0

image_writes_stall_nobody : (h : Shape) (ws : List RegPair) → AllByRecursion (IsImageWrite h) ws → StallNobody ws
image_writes_stall_nobody h [] all = tt
image_writes_stall_nobody h (w ∷ ws) all = (one all.0, image_writes_stall_nobody h ws all.1)
  where
    one : IsImageWrite h w → StallsNobody w
    one (inl r) = (rewrites_stall_nobody h (w ∷ []) (r, tt)).0
    one (inr e) = (λ f. absurd (omega arith), λ f. absurd (omega arith))

pub image_stalls_nobody : (p : PolicyOf) → IsPolicy p → need_refusal p ≡ None → StallNobody (image_of p).writes
image_stalls_nobody p good fits = image_writes_stall_nobody p.shape (image_of p).writes (image_each p good fits)

stalls_not : (ws : List RegPair) (i : ℕ) → (i ≡ index_of Mdstall → ⊥) → (i ≡ index_of Rridscp → ⊥) → AllByRecursion IsStall ws → AreNot i ws
stalls_not [] i p q all = tt
stalls_not (w ∷ ws) i p q all = (one all.0, stalls_not ws i p q all.1)
  where
    one : IsStall w → w.index ≡ i → ⊥
    one (inl t) e = p (sym e ∙ t.0)
    one (inr t) e = q (sym e ∙ t)

pub update_not_enable : (h : Shape) (stalls tables ws : List RegPair) → AllByRecursion IsStall stalls → AllByRecursion (IsRewrite h) tables
    → IsUpdate stalls tables ws → AreNot (index_of Hwcfg0) ws
update_not_enable h stalls tables ws each all update = by update
  where
    first : AreNot (index_of Hwcfg0) stalls
    first = stalls_not stalls (index_of Hwcfg0) (λ e. absurd (omega arith)) (λ e. absurd (omega arith)) each

    by : IsUpdate stalls tables ws → AreNot (index_of Hwcfg0) ws
    by (inl e) = subst (AreNot (index_of Hwcfg0)) (sym e) first
    by (inr e) =
        subst (AreNot (index_of Hwcfg0)) (sym e)
        (all_append (λ (w : RegPair). w.index ≡ index_of Hwcfg0 → ⊥) stalls (tables ++ release_write ∷ []) first
        (all_append (λ (w : RegPair). w.index ≡ index_of Hwcfg0 → ⊥) tables (release_write ∷ []) (rewrites_not h tables (index_of Hwcfg0) (omega arith) (λ e. absurd (omega arith)) all) (λ e. absurd (omega arith), tt)))

-- ---- what may come next

pub tame_next : (h : Shape) (ps ws : List RegPair) → AllByRecursion (IsTame h) ws → AreNext h ps ws
tame_next h ps [] all = tt
tame_next h ps (w ∷ ws) all = (inl all.0, tame_next h (ps ++ w ∷ []) ws all.1)

pub next_both : (h : Shape) (ps xs ys : List RegPair) → AreNext h ps xs → AreNext h (ps ++ xs) ys → AreNext h ps (xs ++ ys)
next_both h ps [] ys a b = subst (λ zs. AreNext h zs ys) (append-nil ps) b
next_both h ps (x ∷ xs) ys a b = (a.0, next_both h (ps ++ x ∷ []) xs ys a.1 (subst (λ zs. AreNext h zs ys) (sym (append_assoc ps (x ∷ []) xs)) b))

stalls_tame : (h : Shape) (ws : List RegPair) → AllByRecursion IsStall ws → AllByRecursion (IsTame h) ws
stalls_tame h [] all = tt
stalls_tame h (w ∷ ws) all = (inr (inl all.0), stalls_tame h ws all.1)

pub rewrites_tame : (h : Shape) (ws : List RegPair) → AllByRecursion (IsRewrite h) ws → AllByRecursion (IsTame h) ws
rewrites_tame h [] all = tt
rewrites_tame h (w ∷ ws) all = (one all.0, rewrites_tame h ws all.1)
  where
    one : IsRewrite h w → IsTame h w
    one (inl t) = inl t
    one (inr p) = inr (inr p)

pub update_tame : (h : Shape) (stalls tables ws : List RegPair) → AllByRecursion IsStall stalls → AllByRecursion (IsRewrite h) tables
    → IsUpdate stalls tables ws → AllByRecursion (IsTame h) ws
update_tame h stalls tables ws each all (inl e) = subst (AllByRecursion (IsTame h)) (sym e) (stalls_tame h stalls each)
update_tame h stalls tables ws each all (inr e) =
    subst (AllByRecursion (IsTame h)) (sym e)
    (all_append (IsTame h) stalls (tables ++ release_write ∷ []) (stalls_tame h stalls each)
    (all_append (IsTame h) tables (release_write ∷ []) (rewrites_tame h tables all) (inr (inl (inl (refl, omega arith))), tt)))

-- ---- the values

-- The stalls leave the other values.
pub with_stalls : (old ws : List RegPair) → AllByRecursion IsStall ws → SameValues (old ++ ws) old
with_stalls old ws each i p q = value_append 0 old ws i ∙ value_kept (value_of old i) i ws (stalls_not ws i p q each)

-- so with the writes that follow both
pub past_stalls : (old stalls ws : List RegPair) → AllByRecursion IsStall stalls → SameValues (old ++ (stalls ++ ws)) (old ++ ws)
past_stalls old stalls ws each i p q =
    ap (λ xs. value_of xs i) (sym (append_assoc old stalls ws))
    ∙ (value_append 0 (old ++ stalls) ws i
    ∙ (ap (λ n. value_from n ws i) (with_stalls old stalls each i p q) ∙ sym (value_append 0 old ws i)))

pub with_update : (h : Shape) (old new stalls tables : List RegPair) → AllByRecursion IsStall stalls → Rewrites h old new tables
    → SameValues (old ++ (stalls ++ (tables ++ release_write ∷ []))) new
with_update h old new stalls tables each r i p q =
    past_stalls old stalls (tables ++ release_write ∷ []) each i p q
    ∙ (ap (λ xs. value_of xs i) (sym (append_assoc old tables (release_write ∷ [])))
    ∙ (value_other (old ++ tables) release_write i (λ e. p (sym e))
    ∙ (value_append 0 old tables i ∙ r.values i)))
