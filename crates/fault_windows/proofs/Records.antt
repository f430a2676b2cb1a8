-- Bit 0 of ERR_INFO, one place on.
use Rattle.std.proofs.Common.{◌≡◌, ℕ, suc, ◌+◌, ◌*◌, ◌/◌, ◌%◌, ◌^◌, ◌<◌, Bool, true, false, not, ◌&&◌, ◌||◌, cond, eqb, ltb, Option, Some, None, length, set, arith, refl, sym, ap, ◌∙◌, subst, ⊎_elim}
use Rattle.std.specs.Prelude.{slice_get, option_map}
use Rattle.std.proofs.lemmas.Bool.{cond_both, cases_eq, eq-eqb, ne_eqb, and_parts, and_cases, not-false, or_left, or_right, cond-true, cond-false}
use Rattle.std.proofs.lemmas.List.{get_or-set_same, get_or-set_other, length-set}
use Rattle.std.proofs.lemmas.List.FromFn.{length-map-range_with_len}
use Rattle.event_words.specs.declared.shape.Shape.{Shape}
use Rattle.event_words.specs.declared.access.Access.{Access}
use Rattle.event_words.specs.declared.reply.Denial.{Denial}
use Rattle.event_words.specs.declared.reply.Decision.{Decision}
use Rattle.event_words.specs.declared.reply.Decision.TheVariants as decisions
use Rattle.event_words.specs.declared.reply.Reply.{Reply}
use Rattle.event_words.specs.declared.reply.Reply.TheVariants as replies
use Rattle.event_words.specs.declared.event.Event.{Event}
use Rattle.event_words.specs.declared.event.Event.TheVariants.{RegWrite, RegRead, Submit, Judge, Aim, Wide}
use Rattle.event_words.specs.declared.register.Register.{Register}
use Rattle.event_words.specs.declared.register.Register.TheVariants.{ErrInfo, ErrReqaddr, ErrReqaddrh, ErrReqid, ErrCfg}
use Rattle.event_words.specs.Events.{unit_of}
use Rattle.event_words.specs.Registers.{Registers, index_of, has_bit, write_at, register_at, reset_word, index_count}
use Rattle.event_words.specs.Word.{kind_code}
use Rattle.event_words.specs.Guards.{reg, guarded_bits}
use Rattle.event_words.specs.Decisions.{decision}
use Rattle.event_words.specs.Denials.{denial, recorded, with_error}
use Rattle.unit_core.specs.declared.Submission.{Submission}
use Rattle.unit_core.specs.Submissions.{is_item}
use Rattle.unit_core.specs.Units.{UnitState, unit_step, submit_step, judge_item, verdict_step, after_write, read_value, closed, is_stalled, queue_length, stall_denial}
use Rattle.unit_core.specs.Histories.{History, state_at, reply_at}
use Rattle.unit_core.proofs.KeptBits.{other_stays}
use Rattle.unit_core.specs.Submitted.{taken_at}
use Rattle.unit_core.proofs.Runs.{speaks_of, own_step, own_state, own_induction, own, own_at, reply_is, reply_none, some_same, else-silent}
use Rattle.fault_windows.specs.LateViolations.{is_kept_violation, is_recorded}
use Rattle.std.proofs.Common.{find}

-- ---- the error registers are among the words of a unit

abbrev IsWide : Registers → Type 0
IsWide r = index_of ErrReqid < length r.words

write_wide : (r : Registers) (index value keep : ℕ) (o : Option Register) → IsWide r → IsWide (write_at r index value keep o)
write_wide r index value keep None l = l
write_wide r index value keep (Some q) l = omega (arith, length-set {A = ℕ})

error_wide : (r : Registers) (info addr addrh id : ℕ) → IsWide r → IsWide (with_error r info addr addrh id)
error_wide r info addr addrh id l =
    let a = length-set r.words (index_of ErrInfo) info in
    let b = length-set (set r.words (index_of ErrInfo) info) (index_of ErrReqaddr) addr in
    let c = length-set (set (set r.words (index_of ErrInfo) info) (index_of ErrReqaddr) addr) (index_of ErrReqaddrh) addrh in
    let d = length-set (set (set (set r.words (index_of ErrInfo) info) (index_of ErrReqaddr) addr) (index_of ErrReqaddrh) addrh) (index_of ErrReqid) id in
    omega arith

recorded_wide : (r : Registers) (a : Access) (d : Denial) → IsWide r → IsWide (recorded r a d)
recorded_wide r a d l =
    cond_both (d.kept && not (has_bit (reg r ErrInfo) 0)) _ r IsWide (λ e. error_wide r _ _ _ _ l) (λ e. l)

submit_wide : (k : ℕ) (x : UnitState) (caller : ℕ) (a : Access) → IsWide x.registers → IsWide (submit_step k x caller a).0.registers
submit_wide k x caller a l =
    cond_both (not (is_stalled x a.rrid)) _ _ (λ (r : UnitState × Reply). IsWide r.0.registers) (λ e. l)
    (λ e. cond_both (ltb (queue_length x) x.registers.shape.queue) _ _ (λ (r : UnitState × Reply). IsWide r.0.registers) (λ f. l)
    (λ f. cond_both (has_bit (reg x.registers ErrCfg) 3) _ _ (λ (r : UnitState × Reply). IsWide r.0.registers) (λ g. recorded_wide x.registers a (stall_denial x) l) (λ g. l)))

verdict_wide : (x : UnitState) (a : Access) (d : Decision) → IsWide x.registers → IsWide (verdict_step x a d).0.registers
verdict_wide x a decisions.Allowed l = l
verdict_wide x a (decisions.Denied kind entry mute_irq mute_err) l = recorded_wide x.registers a (denial x.registers kind entry mute_irq mute_err) l

item_wide : (x : UnitState) (place caller : ℕ) (o : Option Submission) → IsWide x.registers → IsWide (judge_item x place caller o).0.registers
item_wide x place caller None l = l
item_wide x place caller (Some item) l =
    cond_both item.queued _ _ (λ (r : UnitState × Reply). IsWide r.0.registers) (λ e. l) (λ e. verdict_wide (closed place caller x) item.access _ l)

step_wide : (k : ℕ) (x : UnitState) (e : Event) → IsWide x.registers → IsWide (unit_step k x e).0.registers
step_wide k x (RegWrite unit caller index value) l = write_wide x.registers index value _ (register_at x.registers.shape index) l
step_wide k x (RegRead unit caller index) l = l
step_wide k x (Submit unit caller a) l = submit_wide k x caller a l
step_wide k x (Judge unit caller place) l = item_wide x place caller (find (is_item place caller) x.submissions) l
step_wide k x _ l = l

wide : (h : History) (u : ℕ) (shape : Shape) (k : ℕ) → IsWide (own_state h u shape k).registers
wide h u shape =
    own_induction (λ k x. IsWide x.registers) h u shape
    (omega (arith, length-map-range_with_len (reset_word shape) 0 (index_count shape)))
    (λ k x l. l) (λ k x e q t l. step_wide k x e l)

-- ---- one step of a unit

abbrev holds : UnitState → Bool
holds x = has_bit (reg x.registers ErrInfo) 0

-- the bit after an event with this reply
abbrev pub bit_after : Bool → Event → Reply → Bool
bit_after b (RegWrite unit caller index value) (replies.Value word) = cond (eqb index (index_of ErrInfo)) (has_bit word 0) b
bit_after b (RegWrite unit caller index value) _ = b
bit_after b (Submit unit caller access) reply = b || is_kept_violation reply
bit_after b (Judge unit caller place) reply = b || is_kept_violation reply
bit_after b _ reply = b

pub or_false : (b : Bool) → b ≡ (b || false)
or_false true = refl
or_false false = refl

error_word : (r : Registers) (info addr addrh id : ℕ) → IsWide r → reg (with_error r info addr addrh id) ErrInfo ≡ info
error_word r info addr addrh id l =
    get_or-set_other (set (set (set r.words (index_of ErrInfo) info) (index_of ErrReqaddr) addr) (index_of ErrReqaddrh) addrh) (index_of ErrReqid) (index_of ErrInfo) id 0 (λ e. absurd (omega arith)) ∙ (get_or-set_other (set (set r.words (index_of ErrInfo) info) (index_of ErrReqaddr) addr) (index_of ErrReqaddrh) (index_of ErrInfo) addrh 0 (λ e. absurd (omega arith))
    ∙ (get_or-set_other (set r.words (index_of ErrInfo) info) (index_of ErrReqaddr) (index_of ErrInfo) addr 0 (λ e. absurd (omega arith)) ∙ get_or-set_same r.words (index_of ErrInfo) info 0 (omega arith)))

odd : (c d : ℕ) → has_bit (1 + 2 * (1 + c) + 16 * d) 0 ≡ true
odd c d = eq-eqb _ 1 (omega arith)

recorded_bit : (r : Registers) (a : Access) (d : Denial) → IsWide r → has_bit (reg (recorded r a d) ErrInfo) 0 ≡ (has_bit (reg r ErrInfo) 0 || d.kept)
recorded_bit r a d l =
    let b = has_bit (reg r ErrInfo) 0 in
    cond_both (d.kept && not b) (with_error r (1 + 2 * (1 + kind_code a.kind) + 16 * d.kind) (a.addr / 4 % 2 ^ 32) (a.addr / 2 ^ 34) (a.rrid + 65536 * d.entry)) r
    (λ n. has_bit (reg n ErrInfo) 0 ≡ (b || d.kept))
    (λ e. let p = and_parts d.kept (not b) e in
    ap (λ n. has_bit n 0) (error_word r _ _ _ _ l) ∙ (odd (kind_code a.kind) d.kind ∙ sym (or_right b d.kept p.0)))
    (λ e. ⊎_elim
    (λ (f : d.kept ≡ false). or_false b ∙ ap (λ k. b || k) (sym f))
    (λ (f : not b ≡ false). let t = not-false b f in t ∙ sym (or_left b d.kept t))
    (and_cases d.kept (not b) e))

submit_bit : (k : ℕ) (x : UnitState) (caller : ℕ) (a : Access) → IsWide x.registers → holds (submit_step k x caller a).0 ≡ (holds x || is_kept_violation (submit_step k x caller a).1)
submit_bit k x caller a l =
    let P = λ (r : UnitState × Reply). holds r.0 ≡ (holds x || is_kept_violation r.1) in
    cond_both (not (is_stalled x a.rrid)) _ _ P (λ e. or_false (holds x))
    (λ e. cond_both (ltb (queue_length x) x.registers.shape.queue) _ _ P (λ f. or_false (holds x))
    (λ f. cond_both (has_bit (reg x.registers ErrCfg) 3) _ _ P (λ g. recorded_bit x.registers a (stall_denial x) l) (λ g. or_false (holds x))))

verdict_bit : (x : UnitState) (a : Access) (d : Decision) → IsWide x.registers → holds (verdict_step x a d).0 ≡ (holds x || is_kept_violation (verdict_step x a d).1)
verdict_bit x a decisions.Allowed l = or_false (holds x)
verdict_bit x a (decisions.Denied kind entry mute_irq mute_err) l =
    recorded_bit x.registers a (denial x.registers kind entry mute_irq mute_err) l

item_bit : (x : UnitState) (place caller : ℕ) (o : Option Submission) → IsWide x.registers → holds (judge_item x place caller o).0 ≡ (holds x || is_kept_violation (judge_item x place caller o).1)
item_bit x place caller None l = or_false (holds x)
item_bit x place caller (Some item) l =
    cond_both item.queued _ _ (λ (r : UnitState × Reply). holds r.0 ≡ (holds x || is_kept_violation r.1))
    (λ e. or_false (holds x)) (λ e. verdict_bit (closed place caller x) item.access (decision x.registers item.access) l)

write_bit : (x : UnitState) (index value : ℕ) → holds (after_write x index value) ≡ cond (eqb index (index_of ErrInfo)) (has_bit (read_value (after_write x index value) index) 0) (holds x)
write_bit x index value = ⊎_elim
    (λ (e : index ≡ index_of ErrInfo). subst (λ i. holds (after_write x i value) ≡ cond (eqb i (index_of ErrInfo)) (has_bit (read_value (after_write x i value) i) 0) (holds x)) (sym e) refl)
    (λ (ne : index ≡ index_of ErrInfo → ⊥). ap (λ n. has_bit n 0) (other_stays x.registers index value (guarded_bits x.registers index) (index_of ErrInfo) (register_at x.registers.shape index) (λ e. ne (sym e)))
    ∙ sym (cond-false (eqb index (index_of ErrInfo)) _ (holds x) (ne_eqb index (index_of ErrInfo) ne)))
    (cases_eq index (index_of ErrInfo))

step_bit : (k : ℕ) (x : UnitState) (e : Event) → IsWide x.registers → holds (unit_step k x e).0 ≡ bit_after (holds x) e (unit_step k x e).1
step_bit k x (RegWrite unit caller index value) l = write_bit x index value
step_bit k x (RegRead unit caller index) l = refl
step_bit k x (Submit unit caller a) l = submit_bit k x caller a l
step_bit k x (Judge unit caller place) l = item_bit x place caller (find (is_item place caller) x.submissions) l
step_bit k x (Aim caller addr) l = refl
step_bit k x (Wide unit caller rrid kind len) l = refl

-- ---- in a history

none_after : (e : Event) → bit_after false e replies.NoSuch ≡ false
none_after (RegWrite unit caller index value) = refl
none_after (RegRead unit caller index) = refl
none_after (Submit unit caller a) = refl
none_after (Judge unit caller place) = refl
none_after (Aim caller addr) = refl
none_after (Wide unit caller rrid kind len) = refl

step_to : (h : History) (k u : ℕ) (shape : Shape) (o : Option Event) → slice_get h.shapes u ≡ Some shape → taken_at h k ≡ o → state_at h (suc k) u ≡ Some (own_step k u (own_state h u shape k) o)
step_to h k u shape o s p = own_at h u (suc k) shape s ∙ ap (λ o. Some (own_step k u (own_state h u shape k) o)) p

same_unit : (u : ℕ) → speaks_of u (Some u) ≡ true
same_unit u = eq-eqb u u refl

own_done : (k u : ℕ) (x : UnitState) (e : Event) → unit_of e ≡ Some u → own_step k u x (Some e) ≡ (unit_step k x e).0
own_done k u x e t = cond-true (speaks_of u (unit_of e)) (unit_step k x e).0 x (ap (speaks_of u) t ∙ same_unit u)

own_idle : (k u : ℕ) (x : UnitState) (e : Event) → (unit_of e ≡ Some u → ⊥) → own_step k u x (Some e) ≡ x
own_idle k u x e ne = cond-false (speaks_of u (unit_of e)) (unit_step k x e).0 x (else-silent u (unit_of e) ne)

-- The unit of the event.
pub recorded_next : (h : History) (k u : ℕ) (e : Event) (r : Reply) → taken_at h k ≡ Some e → reply_at h k ≡ Some r → unit_of e ≡ Some u
    → is_recorded (state_at h (suc k) u) ≡ bit_after (is_recorded (state_at h k u)) e r
recorded_next h k u e r p q t = by_shape (slice_get h.shapes u) refl
  where
    by_shape : (o : Option Shape) → slice_get h.shapes u ≡ o → is_recorded (state_at h (suc k) u) ≡ bit_after (is_recorded (state_at h k u)) e r
    by_shape None s =
        let none : (k : ℕ) → state_at h k u ≡ None = λ k. own h u k ∙ ap (option_map (λ shape. own_state h u shape k)) s in
        let n : r ≡ replies.NoSuch = some_same r replies.NoSuch (sym q ∙ reply_none h k e u t p (none k)) in
        ap is_recorded (none (suc k))
        ∙ (sym (none_after e) ∙ (ap (λ o. bit_after (is_recorded o) e replies.NoSuch) (sym (none k)) ∙ ap (bit_after (is_recorded (state_at h k u)) e) (sym n)))
    by_shape (Some shape) s =
        let x = own_state h u shape k in
        let now : state_at h k u ≡ Some x = own_at h u k shape s in
        let n : (unit_step k x e).1 ≡ r = reply_is h k e u r x t p q now in
        ap is_recorded (step_to h k u shape (Some e) s p ∙ ap (λ y. Some y) (own_done k u x e t))
        ∙ (step_bit k x e (wide h u shape k) ∙ (ap (bit_after (holds x) e) n ∙ ap (λ o. bit_after (is_recorded o) e r) (sym now)))

abbrev pub IsElsewhere : ℕ → Option Event → Type 0
IsElsewhere u None = Unit {0}
IsElsewhere u (Some e) = unit_of e ≡ Some u → ⊥

elsewhere : (k u : ℕ) (x : UnitState) (o : Option Event) → IsElsewhere u o → own_step k u x o ≡ x
elsewhere k u x None i = refl
elsewhere k u x (Some e) i = own_idle k u x e i

-- What is taken by no unit, or by another.
pub state_other : (h : History) (k u : ℕ) → IsElsewhere u (taken_at h k) → state_at h (suc k) u ≡ state_at h k u
state_other h k u i = by_shape (slice_get h.shapes u) refl
  where
    by_shape : (o : Option Shape) → slice_get h.shapes u ≡ o → state_at h (suc k) u ≡ state_at h k u
    by_shape None s =
        own h u (suc k) ∙ (ap (option_map (λ shape. own_state h u shape (suc k))) s ∙ sym (own h u k ∙ ap (option_map (λ shape. own_state h u shape k)) s))
    by_shape (Some shape) s =
        own_at h u (suc k) shape s ∙ (ap (λ y. Some y) (elsewhere k u (own_state h u shape k) (taken_at h k) i) ∙ sym (own_at h u k shape s))
