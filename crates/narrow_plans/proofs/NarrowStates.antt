-- The states between two images: what stands in them, and that they decide alike for an unaffected requester.
use Rattle.std.proofs.Common.{◌≡◌, ℕ, ◌≤◌, ◌++◌, ◌==◌, true, None, List, [], ◌∷◌, refl, sym, ap, subst, ◌∙◌, arith}
use Rattle.std.specs.List.{AllByRecursion, list_all}
use Rattle.std.proofs.lemmas.Bool.{and_parts}
use Rattle.std.proofs.lemmas.List.{append-nil}
use Rattle.event_words.specs.declared.register.Register.TheVariants.{Hwcfg0, Hwcfg2, Mdcfg}
use Rattle.event_words.specs.declared.shape.Shape.{Shape}
use Rattle.event_words.specs.declared.access.Access.{Access}
use Rattle.event_words.specs.Valid.{IsValidAccess}
use Rattle.event_words.specs.Registers.{Registers, word_at, bits_of, at_reset, index_of}
use Rattle.event_words.specs.Guards.{is_enabled, reg}
use Rattle.event_words.specs.Domains.{bound_of}
use Rattle.event_words.specs.Decisions.{decision}
use Rattle.policy_compiler.specs.declared.image.RegPair.{RegPair}
use Rattle.policy_compiler.specs.Policies.{PolicyOf, IsPolicy}
use Rattle.policy_compiler.specs.Needs.{need_refusal}
use Rattle.policy_compiler.specs.Images.{image_of}
use Rattle.policy_compiler.specs.Decides.{policy_decision}
use Rattle.policy_compiler.specs.Laws.{guarded_write, after_writes, registers_after, kind_of}
use Rattle.policy_compiler.proofs.Standing.{value_of, value_append, Stands, IsRewrite, stands_written}
use Rattle.policy_compiler.proofs.Decisive.{SameValues, decides_standing, image_shape, image_next, image_enables}
use Rattle.policy_compiler.proofs.Plain.{after_append}
use Rattle.history_laws.proofs.Writes.{all_parts}
use Rattle.history_laws.proofs.PlanParts.{AreNot, value_kept}
use Rattle.history_laws.proofs.UpdateWrites.{Rewrites, tame_next, next_both, rewrites_tame, rewrites_not}
use Rattle.history_laws.proofs.SameTables.{decide_alike}
use Rattle.history_laws.proofs.TableRewrites.{tables_between, rewrites_between}
use Rattle.narrow_plans.proofs.SameViews.{true_view}
use Rattle.narrow_plans.specs.Views.{EntryView, view_of}
use Rattle.narrow_plans.specs.BetweenStates.{table_writes, states_after, between_states}
use Rattle.narrow_plans.specs.Unaffected.{has_view, is_unaffected}
use Rattle.narrow_plans.specs.Laws.{IsUnaffected, IsOfBoth, DecideAlike, AllDecideAlike}
use Rattle.narrow_plans.proofs.ViewKinds.{views_decide}

-- ---- registers with the same last values decide alike

bound_word : (r : Registers) (m : ℕ) → r.shape.mdcfg ≡ 0 → bound_of r m ≡ bits_of 0 16 (reg r (Mdcfg m))
bound_word r m z = rw z refl

pub standing_alike : (h : Shape) (ps qs : List RegPair) (r q : Registers) → h.mdcfg ≡ 0 → Stands h ps r → Stands h qs q → SameValues ps qs
    → (a : Access) → decision r a ≡ decision q a
standing_alike h ps qs r q z c d same =
    decide_alike r q
    (record {
      shape = c.unlocked.shape ∙ sym d.unlocked.shape;
      enabled = c.enabled ∙ (ap (λ n. n == 1) (same (index_of Hwcfg0) (λ e. absurd (omega arith)) (λ e. absurd (omega arith))) ∙ sym d.enabled);
      prio = c.prio ∙ (same (index_of Hwcfg2) (λ e. absurd (omega arith)) (λ e. absurd (omega arith)) ∙ sym d.prio);
      bounds = λ m.
          bound_word r m (ap (λ (s : Shape). s.mdcfg) c.unlocked.shape ∙ z)
          ∙ (ap (bits_of 0 16) (table (index_of (Mdcfg m)) (omega arith)) ∙ sym (bound_word q m (ap (λ (s : Shape). s.mdcfg) d.unlocked.shape ∙ z)));
      tables = table;
    })
  where
    table : (i : ℕ) → index_of (Mdcfg 0) ≤ i → word_at r i ≡ word_at q i
    table i l = c.tables i l ∙ (same i (λ e. absurd (omega arith)) (λ e. absurd (omega arith)) ∙ sym (d.tables i l))

-- ---- lists of states

-- what holds of all states holds of that after a part of the writes
state_of : (P : Registers → Type 0) (r : Registers) (part rest : List RegPair) → AllByRecursion P (states_after r (part ++ rest))
    → P (after_writes r part)
state_of P r [] [] all = all.0
state_of P r [] (w ∷ rest) all = all.0
state_of P r (w ∷ part) rest all = state_of P (guarded_write r w) part rest all.1

-- and the other way around
states_each : (P : Registers → Type 0) (r : Registers) (ws : List RegPair)
    → ((part rest : List RegPair) → ws ≡ part ++ rest → P (after_writes r part)) → AllByRecursion P (states_after r ws)
states_each P r [] each = (each [] [] refl, tt)
states_each P r (w ∷ ws) each = (each [] (w ∷ ws) refl, states_each P (guarded_write r w) ws (λ part rest e. each (w ∷ part) rest (ap (λ vs. w ∷ vs) e)))

-- ---- equal views

all_see : (s : ℕ) (view : List EntryView) (rs : List Registers) → list_all (has_view s view) rs ≡ true
    → AllByRecursion (λ r. view ≡ view_of r s) rs
all_see s view [] e = tt
all_see s view (r ∷ rs) e = let parts = and_parts (has_view s view r) (list_all (has_view s view) rs) e in (true_view view (view_of r s) parts.0, all_see s view rs parts.1)

-- ---- the states between

pub record AreBetween (old new : PolicyOf) : Type 0 where
  pub good_old : IsPolicy old
  pub good_new : IsPolicy new
  pub shapes : old.shape ≡ new.shape
  pub fits_old : need_refusal old ≡ None
  pub fits_new : need_refusal new ≡ None

module _ (old new : PolicyOf) (b : AreBetween old new) where
  abbrev tables : List RegPair
  tables = tables_between (image_of old) (image_of new)

  abbrev pub state : List RegPair → Registers
  state part = after_writes (registers_after (image_of old)) part

  rewrites : Rewrites old.shape (image_of old).writes (image_of new).writes tables
  rewrites = rewrites_between old new b.good_old b.good_new b.shapes b.fits_old b.fits_new

  pub state_stands : (part rest : List RegPair) → tables ≡ part ++ rest → Stands old.shape ((image_of old).writes ++ part) (state part)
  unfolding registers_after
  state_stands part rest e =
      let parts = all_parts (IsRewrite old.shape) part rest (subst (AllByRecursion (IsRewrite old.shape)) e rewrites.each) in
      let tame = tame_next old.shape (image_of old).writes part (rewrites_tame old.shape part parts.0) in
      let next = next_both old.shape [] (image_of old).writes part (image_next old b.good_old b.fits_old) tame in
      let all = stands_written old.shape ((image_of old).writes ++ part) b.good_old.shape next in
      subst (λ r. Stands old.shape ((image_of old).writes ++ part) r)
      (after_append (at_reset old.shape) (image_of old).writes part ∙ ap (λ h. after_writes (after_writes (at_reset h) (image_of old).writes) part) (sym (image_shape old))) all

  -- the enable bit stays set
  enabled : (part rest : List RegPair) → tables ≡ part ++ rest → is_enabled (state part) ≡ true
  enabled part rest e =
      let c = state_stands part rest e in
      let nots = all_parts (λ (w : RegPair). w.index ≡ index_of Hwcfg0 → ⊥) part rest (subst (AreNot (index_of Hwcfg0)) e (rewrites_not old.shape tables (index_of Hwcfg0) (omega arith) (λ e. absurd (omega arith)) rewrites.each)) in
      c.enabled ∙ ap (λ n. n == 1) (value_append 0 (image_of old).writes part (index_of Hwcfg0) ∙ (value_kept _ (index_of Hwcfg0) part nots.0 ∙ image_enables old))

  module _ (a : Access) (valid : IsValidAccess a) (calm : IsUnaffected old new a.rrid) where
    views : (part rest : List RegPair) → tables ≡ part ++ rest
        → view_of (registers_after (image_of old)) a.rrid ≡ view_of (state part) a.rrid
    unfolding is_unaffected between_states table_writes
    views part rest e =
        let all = all_see a.rrid (view_of (registers_after (image_of old)) a.rrid) (states_after (registers_after (image_of old)) tables) calm.1 in
        state_of (λ r. view_of (registers_after (image_of old)) a.rrid ≡ view_of r a.rrid) (registers_after (image_of old)) part rest
        (subst (λ ws. AllByRecursion (λ r. view_of (registers_after (image_of old)) a.rrid ≡ view_of r a.rrid) (states_after (registers_after (image_of old)) ws)) e all)

    same_kind : (part rest : List RegPair) → tables ≡ part ++ rest → kind_of (decision (state part) a) ≡ kind_of (decision (state []) a)
    same_kind part rest e =
        views_decide (state part) (state []) a valid
        (record {
          shape = (state_stands part rest e).unlocked.shape ∙ sym (state_stands [] tables refl).unlocked.shape;
          enabled = enabled part rest e ∙ sym (enabled [] tables refl);
          views = sym (views part rest e);
        })

    first_kind : kind_of (decision (state []) a) ≡ policy_decision old a
    first_kind =
        decides_standing (state []) old ((image_of old).writes ++ []) b.good_old b.fits_old (state_stands [] tables refl)
        (λ i p q. ap (λ ws. value_of ws i) (append-nil (image_of old).writes)) a valid

    last_kind : kind_of (decision (state tables) a) ≡ policy_decision new a
    last_kind =
        decides_standing (state tables) new ((image_of old).writes ++ tables) b.good_new b.fits_new
        (subst (λ h. Stands h ((image_of old).writes ++ tables) (state tables)) b.shapes (state_stands tables [] (sym (append-nil tables))))
        (λ i p q. value_append 0 (image_of old).writes tables i ∙ rewrites.values i) a valid

    -- A state between decides it as both policies do.
    pub of_both : (part rest : List RegPair) → tables ≡ part ++ rest → IsOfBoth old new a (kind_of (decision (state part) a))
    of_both part rest e =
        let same = same_kind part rest e in
        (same ∙ first_kind, same ∙ (sym (same_kind tables [] (sym (append-nil tables))) ∙ last_kind))

  pub all_decide_alike : AllDecideAlike old new
  unfolding between_states table_writes
  all_decide_alike = states_each (DecideAlike old new) (registers_after (image_of old)) tables (λ part rest e a valid calm. of_both a valid calm part rest e)
