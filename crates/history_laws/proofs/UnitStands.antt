-- What the register writes of a history leave in unit 0, whatever stands between them.
use Rattle.std.proofs.Common.{◌≡◌, ℕ, zero, suc, ◌+◌, ◌-◌, ◌/◌, ◌%◌, ◌^◌, ◌<◌, ◌≤◌, ◌++◌, ltb, ◌==◌, ◌&&◌, inl, inr, Bool, true, false, cond, List, [], ◌∷◌, Option, Some, None, length, take, drop, append_assoc, set, refl, sym, ap, subst, ◌∙◌, arith, ⊎_elim}
use Rattle.std.specs.Prelude.{slice_get, nat_le, option_and_then}
use Rattle.std.specs.List.{AllByRecursion}
use Rattle.std.specs.Int.{bit_at}
use Rattle.std.proofs.lemmas.Nat.Bits.{bit_at-zero, bit_at-suc}
use Rattle.std.proofs.lemmas.List.{length-set, length-replicate, get_or-set_same, get_or-set_other, get_or-replicate, append-nil}
use Rattle.std.proofs.lemmas.List.FromFn.{get_or-map-range_with_len}
use Rattle.std.proofs.lemmas.Bool.{cases_eq, cond-true, cond-false, cond_both, eq-eqb, ne_eqb, eqb-true}
use Rattle.event_words.specs.declared.register.Register.TheVariants.{Hwcfg0, Mdstall, Mdstallh, Rridscp, Entrylck, ErrInfo, ErrReqaddr, ErrReqaddrh, ErrReqid, Mdcfg}
use Rattle.event_words.specs.declared.shape.Shape.{Shape}
use Rattle.event_words.specs.declared.access.Access.{Access}
use Rattle.event_words.specs.declared.reply.Denial.{Denial}
use Rattle.event_words.specs.declared.event.Event.{Event}
use Rattle.event_words.specs.declared.event.Event.TheVariants.{RegWrite, RegRead, Submit, Judge, Aim, Wide}
use Rattle.event_words.specs.Registers.{Registers, has_bit, has_pair_bit, register_at, reset_word, index_count, index_of}
use Rattle.event_words.specs.Guards.{guarded_bits, reg}
use Rattle.event_words.specs.Events.{unit_of}
use Rattle.event_words.specs.Domains.{is_associated}
use Rattle.event_words.specs.Denials.{recorded}
use Rattle.event_words.specs.Stalls.{flag_of, is_selected, is_selected_domain, differs, flags_after, flags_after_mdstall, flags_after_rridscp}
use Rattle.event_words.proofs.Ranges.{none_any}
use Rattle.policy_compiler.specs.declared.image.RegPair.{RegPair}
use Rattle.policy_compiler.specs.Policies.{IsPolicyShape}
use Rattle.policy_compiler.specs.Images.{pair}
use Rattle.policy_compiler.proofs.Standing.{Stands, IsNext, AreNext, stands_same, stands_step, stands_reset}
use Rattle.unit_core.proofs.KeptBits.{other_stays}
use Rattle.unit_core.specs.Units.{UnitState, unit_step, is_stalled, after_write, taken_as, wide_access}
use Rattle.unit_core.specs.Histories.{History, aims_at, event_at}
use Rattle.unit_core.specs.Submitted.{taken_at}
use Rattle.unit_core.proofs.Items.{submit_cases, judge_cases}
use Rattle.unit_core.proofs.Registers.{recorded_cases, recorded_outside}
use Rattle.unit_core.proofs.Runs.{own_state, own_next, as_it_is}
use Rattle.unit_core.proofs.Sims.{flags_after_len}
use Rattle.history_laws.proofs.Writes.{write_of, writes, writes_next, writes_past, writes_cut, all_get}

-- ---- the flag of a requester

-- a write of RRIDSCP that names it sets or clears its flag
abbrev flag_by_rridscp : ℕ → Bool → ℕ → Bool
flag_by_rridscp s b v =
    cond (v / 2 ^ 30 == 1) (cond (v % 2 ^ 16 == s) true b)
    (cond (v / 2 ^ 30 == 2) (cond (v % 2 ^ 16 == s) false b) b)

-- a write of MDSTALL that selects no domain sets or clears every flag
abbrev pub flag_after : ℕ → Bool → RegPair → Bool
flag_after s b w = cond (w.index == index_of Mdstall) (w.value == 1) (cond (w.index == index_of Rridscp) (flag_by_rridscp s b w.value) b)

abbrev pub flag_from : ℕ → Bool → List RegPair → Bool
flag_from s b [] = b
flag_from s b (w ∷ ws) = flag_from s (flag_after s b w) ws

pub flag_append : (s : ℕ) (b : Bool) (ps qs : List RegPair) → flag_from s b (ps ++ qs) ≡ flag_from s (flag_from s b ps) qs
flag_append s b [] qs = refl
flag_append s b (p ∷ ps) qs = flag_append s (flag_after s b p) ps qs

-- Its registers stand after these writes, MDSTALLH, which none of them writes, selects no domain, and each known
-- requester has the flag that they leave.
pub record UnitStands (h : Shape) (ps : List RegPair) (x : UnitState) : Type 0 where
  pub registers : Stands h ps x.registers
  pub unselected : reg x.registers Mdstallh ≡ 0
  pub count : length x.flags ≡ h.rrids
  pub stalled : (s : ℕ) → s < h.rrids → is_stalled x s ≡ flag_from s false ps

-- ---- captures

stands_recorded : (h : Shape) (ps : List RegPair) (r : Registers) (a : Access) (d : Denial) → Stands h ps r → Stands h ps (recorded r a d)
stands_recorded h ps r a d c =
    let shape = recorded_cases (λ s. s.shape ≡ r.shape) r a d (λ info addr addrh id. refl) refl in
    let len = recorded_cases (λ s. length s.words ≡ length r.words) r a d
    (λ info addr addrh id.
    let one : List ℕ = set r.words (index_of ErrInfo) info in
    let two : List ℕ = set one (index_of ErrReqaddr) addr in
    let three : List ℕ = set two (index_of ErrReqaddrh) addrh in
    length-set three (index_of ErrReqid) id
    ∙ (length-set two (index_of ErrReqaddrh) addrh ∙ (length-set one (index_of ErrReqaddr) addr ∙ length-set r.words (index_of ErrInfo) info))) refl in
    stands_same h ps r (recorded r a d) shape len
    (λ i out. recorded_outside r a d i (⊎_elim (λ (low : i < index_of Entrylck + 1). inl (omega arith)) (λ (high : index_of (Mdcfg 0) ≤ i). inr (omega arith)) out)) c

-- ---- a write of MDSTALL that selects no domain

no_bit : (v m : ℕ) → v < 2 → has_bit v (m + 1) ≡ false
no_bit v m small =
    let e : m + 1 ≡ suc m = omega arith in
    let z : v / 2 ≡ 0 = omega arith in
    ap (λ b. b == 1) (ap (bit_at v) e ∙ (bit_at-suc v m ∙ (ap (λ n. bit_at n m) z ∙ bit_at-zero m)))

no_pair_bit : (v high m : ℕ) → v < 2 → high ≡ 0 → has_pair_bit v high (m + 1) ≡ false
no_pair_bit v high m small z =
    cond_both (ltb (m + 1) 32) (has_bit v (m + 1)) (has_bit high (m + 1 - 32)) (λ b. b ≡ false) (λ low. no_bit v m small)
    (λ up. ap (λ b. b == 1) (ap (λ n. bit_at n (m + 1 - 32)) z ∙ bit_at-zero (m + 1 - 32)))

none_selected : (r : Registers) (v s : ℕ) → v < 2 → reg r Mdstallh ≡ 0 → is_selected r v s ≡ false
none_selected r v s small z =
    none_any (λ m. is_selected_domain r v m && is_associated r s m) 0 r.shape.domains (λ m l u. ap (λ b. b && is_associated r s m) (no_pair_bit v (reg r Mdstallh) m small z))

differs_none : (b : Bool) → differs b false ≡ b
differs_none true = refl
differs_none false = refl

-- 1 stalls every known requester, and 0 none.
stalls_all : (r : Registers) (v s : ℕ) → v < 2 → reg r Mdstallh ≡ 0 → s < r.shape.rrids → flag_of (flags_after_mdstall r v) s ≡ (v == 1)
stalls_all r v s small z l =
    let low : v / 2 ^ 0 % 2 ≡ v = omega arith in
    get_or-map-range_with_len (λ s. differs (has_bit v 0) (is_selected r v s)) 0 r.shape.rrids s s false l (omega arith)
    ∙ (ap (differs (has_bit v 0)) (none_selected r v s small z) ∙ (differs_none (has_bit v 0) ∙ ap (λ n. n == 1) low))

-- ---- one step

-- MDSTALLH isn't written, and MDSTALL with no domain selected alone.
next_not_mdstallh : (h : Shape) (ps : List RegPair) (w : RegPair) → IsNext h ps w → w.index ≡ index_of Mdstallh → ⊥
next_not_mdstallh h ps w (inl (inl t)) e = let f = t.0 in absurd (omega arith)
next_not_mdstallh h ps w (inl (inr (inl (inl t)))) e = let f = t.0 in absurd (omega arith)
next_not_mdstallh h ps w (inl (inr (inl (inr t)))) e = absurd (omega arith)
next_not_mdstallh h ps w (inl (inr (inr p))) e = let t = p.table in absurd (omega arith)
next_not_mdstallh h ps w (inr t) e = let f : w.index ≡ index_of Hwcfg0 = ap (λ (x : RegPair). x.index) t.0 in absurd (omega arith)

next_mdstall_small : (h : Shape) (ps : List RegPair) (w : RegPair) → IsNext h ps w → w.index ≡ index_of Mdstall → w.value < 2
next_mdstall_small h ps w (inl (inl t)) e = let f = t.0 in absurd (omega arith)
next_mdstall_small h ps w (inl (inr (inl (inl t)))) e = t.1
next_mdstall_small h ps w (inl (inr (inl (inr t)))) e = absurd (omega arith)
next_mdstall_small h ps w (inl (inr (inr p))) e = let t = p.table in absurd (omega arith)
next_mdstall_small h ps w (inr t) e = let f : w.index ≡ index_of Hwcfg0 = ap (λ (x : RegPair). x.index) t.0 in absurd (omega arith)

one_set : (flags : List Bool) (j s : ℕ) (b c : Bool) → s < length flags → flag_of flags s ≡ b
    → flag_of (set flags j c) s ≡ cond (j == s) c b
one_set flags j s b c l e = ⊎_elim
    (λ (q : j ≡ s). ap (flag_of (set flags j c)) (sym q) ∙ (get_or-set_same flags j c false (omega arith) ∙ sym (cond-true (j == s) c b (eq-eqb j s q))))
    (λ (ne : j ≡ s → ⊥). get_or-set_other flags j s c false (λ q. ne (sym q)) ∙ (e ∙ sym (cond-false (j == s) c b (ne_eqb j s ne))))
    (cases_eq j s)

by_rridscp : (flags : List Bool) (v s : ℕ) (b : Bool) → s < length flags → flag_of flags s ≡ b
    → flag_of (flags_after_rridscp flags v) s ≡ flag_by_rridscp s b v
by_rridscp flags v s b l e = by (v / 2 ^ 30 == 1) (v / 2 ^ 30 == 2)
  where
    by : (p q : Bool)
        → flag_of (cond p (set flags (v % 2 ^ 16) true) (cond q (set flags (v % 2 ^ 16) false) flags)) s
        ≡ cond p (cond (v % 2 ^ 16 == s) true b) (cond q (cond (v % 2 ^ 16 == s) false b) b)
    by true q = one_set flags (v % 2 ^ 16) s b true l e
    by false true = one_set flags (v % 2 ^ 16) s b false l e
    by false false = e

flag_written : (h : Shape) (ps : List RegPair) (x : UnitState) (index value s : ℕ) → IsNext h ps (pair index value) → UnitStands h ps x
    → s < h.rrids
    → flag_of (flags_after x.registers x.flags index value) s ≡ flag_after s (flag_from s false ps) (pair index value)
flag_written h ps x index value s next c l = by (index == index_of Mdstall) (index == index_of Rridscp) refl refl
  where
    by : (p q : Bool) → (index == index_of Mdstall) ≡ p → (index == index_of Rridscp) ≡ q
        → flag_of (cond p (flags_after_mdstall x.registers value) (cond q (flags_after_rridscp x.flags value) x.flags)) s
        ≡ cond p (value == 1) (cond q (flag_by_rridscp s (flag_from s false ps) value) (flag_from s false ps))
    by true q e f =
        let known : s < x.registers.shape.rrids = subst (λ (z : Shape). s < z.rrids) (sym c.registers.unlocked.shape) l in
        stalls_all x.registers value s (next_mdstall_small h ps (pair index value) next (eqb-true index (index_of Mdstall) e)) c.unselected known
    by false true e f = let n = c.count in by_rridscp x.flags value s (flag_from s false ps) (omega arith) (c.stalled s l)
    by false false e f = c.stalled s l

write_stands : (h : Shape) (ps : List RegPair) (x : UnitState) (index value : ℕ) → IsPolicyShape h → IsNext h ps (pair index value)
    → UnitStands h ps x → UnitStands h (ps ++ pair index value ∷ []) (after_write x index value)
write_stands h ps x index value good next c =
    let rrids : x.registers.shape.rrids ≡ h.rrids = ap (λ (z : Shape). z.rrids) c.registers.unlocked.shape in
    record {
      registers = stands_step h ps x.registers (pair index value) good next c.registers;
      unselected = other_stays x.registers index value (guarded_bits x.registers index) (index_of Mdstallh) (register_at x.registers.shape index) (λ e. next_not_mdstallh h ps (pair index value) next (sym e)) ∙ c.unselected;
      count = flags_after_len x.registers x.flags index value (c.count ∙ sym rrids) ∙ rrids;
      stalled = λ s l. flag_written h ps x index value s next c l ∙ sym (flag_append s false ps (pair index value ∷ []));
    }

quiet : (h : Shape) (ps : List RegPair) (x y : UnitState) → y.flags ≡ x.flags → Stands h ps y.registers
    → reg y.registers Mdstallh ≡ reg x.registers Mdstallh → UnitStands h ps x → UnitStands h (ps ++ []) y
quiet h ps x y flags c high u =
    subst (λ ws. UnitStands h ws y) (sym (append-nil ps)) (record { registers = c; unselected = high ∙ u.unselected; count = ap length flags ∙ u.count; stalled = λ s l. ap (λ fs. flag_of fs s) flags ∙ u.stalled s l })

-- A capture leaves what stands.
captured : (h : Shape) (ps : List RegPair) (x y : UnitState) (a : Access) (d : Denial) → y.flags ≡ x.flags
    → y.registers ≡ recorded x.registers a d → UnitStands h ps x → UnitStands h (ps ++ []) y
captured h ps x y a d flags e u =
    quiet h ps x y flags (subst (Stands h ps) (sym e) (stands_recorded h ps x.registers a d u.registers)) (ap (λ r. reg r Mdstallh) e ∙ recorded_outside x.registers a d (index_of Mdstallh) (inl (omega arith))) u

step_stands : (h : Shape) (ps : List RegPair) (k : ℕ) (x : UnitState) (e : Event) → IsPolicyShape h
    → ((w : RegPair) → write_of e ≡ w ∷ [] → IsNext h ps w) → UnitStands h ps x → UnitStands h (ps ++ write_of e) (unit_step k x e).0
step_stands h ps k x (RegWrite unit caller index value) good next c = write_stands h ps x index value good (next (pair index value) refl) c
step_stands h ps k x (RegRead unit caller index) good next c = quiet h ps x x refl c.registers refl c
step_stands h ps k x (Submit unit caller a) good next c =
    submit_cases (λ r. UnitStands h (ps ++ []) r.0) k x caller a (λ e. quiet h ps x _ refl c.registers refl c) (λ e f. quiet h ps x _ refl c.registers refl c)
    (λ d. captured h ps x _ a d refl refl c) (quiet h ps x x refl c.registers refl c)
step_stands h ps k x (Judge unit caller place) good next c =
    judge_cases (λ r. UnitStands h (ps ++ []) r.0) x place caller (λ e. quiet h ps x x refl c.registers refl c) (λ item e f. quiet h ps x x refl c.registers refl c)
    (λ item e f v. quiet h ps x _ refl c.registers refl c) (λ item e f d v. captured h ps x _ item.access d refl refl c)
step_stands h ps k x _ good next c = quiet h ps x x refl c.registers refl c

-- ---- a whole history

-- a write is on unit 0
abbrev pub IsOnZero : Event → Type 0
IsOnZero (RegWrite unit caller index value) = unit ≡ 0
IsOnZero _ = Unit {0}

next_at : (h : Shape) (ps xs ys : List RegPair) (w : RegPair) → AreNext h ps (xs ++ w ∷ ys) → IsNext h (ps ++ xs) w
next_at h ps [] ys w n = subst (λ zs. IsNext h zs w) (sym (append-nil ps)) n.0
next_at h ps (x ∷ xs) ys w n = subst (λ zs. IsNext h zs w) (append_assoc ps (x ∷ []) xs) (next_at h (ps ++ x ∷ []) xs ys w n.1)

next_write : (h : Shape) (es : List Event) (k : ℕ) (e : Event) (w : RegPair) → AreNext h [] (writes es) → slice_get es k ≡ Some e
    → write_of e ≡ w ∷ [] → IsNext h (writes (take k es)) w
next_write h es k e w n q r =
    next_at h [] (writes (take k es)) (writes (drop (suc k) es)) w (subst (AreNext h []) (writes_cut es k e q ∙ ap (λ ws. writes (take k es) ++ (ws ++ writes (drop (suc k) es))) r) n)

-- The event of a place writes what its unit takes of it.
pub record IsTakenFrom (g : History) (k : ℕ) (e : Event) : Type 0 where
  pub event : Event
  pub here : event_at g k ≡ Some event
  pub writes : write_of event ≡ write_of e

same_write : (d e : Event) → Some d ≡ Some e → write_of d ≡ write_of e
same_write d e q = let same : d ≡ e = cc in ap write_of same

write_taken : (aims : List ℕ) (d e : Event) → taken_as aims d ≡ Some e → write_of d ≡ write_of e
write_taken aims (RegWrite unit caller index value) e q = same_write (RegWrite unit caller index value) e q
write_taken aims (RegRead unit caller index) e q = same_write (RegRead unit caller index) e q
write_taken aims (Submit unit caller a) e q = same_write (Submit unit caller a) e q
write_taken aims (Judge unit caller place) e q = same_write (Judge unit caller place) e q
write_taken aims (Aim caller addr) e q = absurd (let n : None ≡ Some e = q in cc)
write_taken aims (Wide unit caller rrid kind len) e q =
    let a = wide_access aims caller rrid kind len in
    cond_both (nat_le (a.addr + a.len) (2 ^ 52)) (Some (Submit unit caller a)) None (λ o. o ≡ Some e → write_of (Wide unit caller rrid kind len) ≡ write_of e)
    (λ t s. same_write (Submit unit caller a) e s)
    (λ t s. absurd (let n : None ≡ Some e = s in cc)) q

pub taken_from : (g : History) (k : ℕ) (e : Event) → taken_at g k ≡ Some e → IsTakenFrom g k e
taken_from g k e q = by (event_at g k) refl q
  where
    by : (o : Option Event) → event_at g k ≡ o → option_and_then (taken_as (aims_at g k)) o ≡ Some e → IsTakenFrom g k e
    by None p t = absurd (let n : None ≡ Some e = t in cc)
    by (Some d) p t = record { event = d; here = p; writes = write_taken (aims_at g k) d e t }

-- An event that unit 0 doesn't take writes nothing.
elsewhere : (g : History) (k : ℕ) (e : Event) → IsOnZero e → event_at g k ≡ Some e
    → ((d : Event) → taken_at g k ≡ Some d → unit_of d ≡ Some 0 → ⊥) → write_of e ≡ []
elsewhere g k (RegWrite unit caller index value) z q n = absurd (n (RegWrite unit caller index value) (as_it_is g k (RegWrite unit caller index value) refl q) (ap (λ n. Some n) z))
elsewhere g k _ z q n = refl

passed : (h : Shape) (g : History) (k : ℕ) (x : UnitState) (o : Option Event) → event_at g k ≡ o → AllByRecursion IsOnZero g.events
    → ((e : Event) → taken_at g k ≡ Some e → unit_of e ≡ Some 0 → ⊥) → UnitStands h (writes (take k g.events)) x
    → UnitStands h (writes (take (suc k) g.events)) x
passed h g k x None q all n c = subst (λ ws. UnitStands h ws x) (sym (writes_past g.events k q)) c
passed h g k x (Some e) q all n c =
    let es = g.events in
    subst (λ ws. UnitStands h ws x) (sym (writes_next es k e q ∙ (ap (λ ws. writes (take k es) ++ ws) (elsewhere g k e (all_get IsOnZero es k e all q) q n) ∙ append-nil (writes (take k es))))) c

-- Before each place unit 0 stands after the writes before it.
pub unit_stands : (h : Shape) (g : History) → IsPolicyShape h → AreNext h [] (writes g.events) → AllByRecursion IsOnZero g.events → (k : ℕ)
    → UnitStands h (writes (take k g.events)) (own_state g 0 h k)
unit_stands h g good next all zero = record {
  registers = stands_reset h good;
  unselected = get_or-map-range_with_len (reset_word h) 0 (index_count h) (index_of Mdstallh) (index_of Mdstallh) 0 (omega arith) (omega arith);
  count = length-replicate h.rrids false;
  stalled = λ s l. get_or-replicate h.rrids s false false l;
}
unit_stands h g good next all (suc k) =
    let x = own_state g 0 h k in
    let es = g.events in
    let before = unit_stands h g good next all k in
    own_next (UnitStands h (writes (take (suc k) es))) k 0 x (taken_at g k) (λ n. passed h g k x (event_at g k) refl all n before)
    (λ e q t.
    let from = taken_from g k e q in
    subst (λ ws. UnitStands h ws (unit_step k x e).0) (sym (writes_next es k from.event from.here ∙ ap (λ ws. writes (take k es) ++ ws) from.writes))
    (step_stands h (writes (take k es)) k x e good (λ w r. next_write h es k from.event w next from.here (from.writes ∙ r)) before))
