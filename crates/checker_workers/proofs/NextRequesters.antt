-- A unit of a valid shape hands an access on with a requester.
use Rattle.std.proofs.Common.{◌≡◌, ℕ, zero, suc, ◌+◌, ◌^◌, ◌≤◌, Bool, true, false, List, [], ◌∷◌, ◌++◌, length, map, set, Option, Some, None, refl, sym, ap, ◌∙◌, subst}
use Rattle.std.specs.Prelude.{slice_get, find, unwrap_or, option_and_then, IfSome, nat_lt, nat_le, not, if◌then◌else◌}
use Rattle.std.specs.List.{AllByRecursion}
use Rattle.std.proofs.Math.Seq.{take-append_seam}
use Rattle.event_words.specs.declared.shape.Shape.{Shape}
use Rattle.event_words.specs.declared.access.Access.{Access}
use Rattle.event_words.specs.declared.event.Event.{Event}
use Rattle.event_words.specs.declared.event.Event.TheVariants as events
use Rattle.event_words.specs.declared.register.Register.TheVariants.{ErrCfg}
use Rattle.event_words.specs.declared.reply.Decision.{Decision}
use Rattle.event_words.specs.declared.reply.Decision.TheVariants as decisions
use Rattle.event_words.specs.declared.reply.Reply.{Reply}
use Rattle.event_words.specs.declared.reply.Reply.TheVariants as replies
use Rattle.event_words.specs.declared.reply.Verdict.TheVariants as verdicts
use Rattle.event_words.specs.Decisions.{decision}
use Rattle.event_words.specs.Denials.{denial}
use Rattle.event_words.specs.Events.{unit_of}
use Rattle.event_words.specs.Guards.{guarded_bits, reg}
use Rattle.event_words.specs.Registers.{has_bit}
use Rattle.event_words.specs.Runs.{run}
use Rattle.event_words.specs.Valid.{IsValidEvent, IsValidShape}
use Rattle.event_words.specs.Word.{word_of, event_of_word}
use Rattle.unit_core.specs.declared.Submission.{Submission}
use Rattle.unit_core.specs.Submissions.{SubmittedAccess, submitted, is_item}
use Rattle.unit_core.specs.Units.{UnitState, FabricState, unit_at_reset, fabric_at_reset, unit_step, step_at, step_on, taken_as, taken_step, wide_access, next_rrid, judge_item, verdict_step, closed, stall_denial, is_stalled, queue_length}
use Rattle.unit_core.specs.Fabrics.{state_after_word, reply_to_word}
use Rattle.unit_core.specs.Histories.{History, after_event, aims_at, units_at, event_at, reply_at, history_of}
use Rattle.shared_log.specs.Words.{AllEventWords}
use Rattle.history_laws.specs.Verdicts.{verdict_of, IsDecided}
use Rattle.event_words.proofs.Runs.{event_of_word-word_of}
use Rattle.event_words.proofs.Cases.{by_test}
use Rattle.history_laws.proofs.QueueLaw.{written-shape}
use Rattle.history_laws.proofs.VerdictLaw.{law_verdicts}
use Rattle.history_laws.proofs.WordHistories.{events_at_words, event_at_words, reply_at_words, word_at_place}
use Rattle.history_laws.proofs.TicketReplies.{get_last}
use Rattle.std.proofs.lemmas.Bool.{cond_both}
use Rattle.unit_core.proofs.Sims.{recorded_shape}
use Rattle.checker_workers.specs.Ports.{PortView, IsAtReset, MakesEvent, state_after}
use Rattle.checker_workers.proofs.Making.{reply_of_event, submit_on}

-- ---- a unit keeps its shape

abbrev HasShape : Shape → UnitState × Reply → Type 0
HasShape shape r = r.0.registers.shape ≡ shape

submit_shape : (k : ℕ) (u : UnitState) (c : ℕ) (a : Access) (x y z : Bool) → HasShape u.registers.shape (submit_on k u c a x y z)
submit_shape k u c a true y z = refl
submit_shape k u c a false true z = refl
submit_shape k u c a false false true = recorded_shape u.registers a (stall_denial u)
submit_shape k u c a false false false = refl

verdict_shape : (u : UnitState) (a : Access) (d : Decision) → HasShape u.registers.shape (verdict_step u a d)
verdict_shape u a decisions.Allowed = refl
verdict_shape u a (decisions.Denied kind entry mute_irq mute_err) = recorded_shape u.registers a (denial u.registers kind entry mute_irq mute_err)

judge_shape : (u : UnitState) (place caller : ℕ) (o : Option Submission) → HasShape u.registers.shape (judge_item u place caller o)
judge_shape u place caller None = refl
judge_shape u place caller (Some item) =
    cond_both item.queued (u, replies.Held) (verdict_step (closed place caller u) item.access (decision u.registers item.access)) (HasShape u.registers.shape)
    (λ q. refl)
    (λ q. verdict_shape (closed place caller u) item.access (decision u.registers item.access))

step_shape : (k : ℕ) (u : UnitState) (e : Event) → HasShape u.registers.shape (unit_step k u e)
step_shape k u (events.RegWrite unit caller index value) = written-shape u.registers index value (guarded_bits u.registers index)
step_shape k u (events.RegRead unit caller index) = refl
step_shape k u (events.Submit unit caller a) = submit_shape k u caller a (not (is_stalled u a.rrid)) (nat_lt (queue_length u) u.registers.shape.queue) (has_bit (reg u.registers ErrCfg) 3)
step_shape k u (events.Judge unit caller place) = judge_shape u place caller (find (is_item place caller) u.submissions)
step_shape k u (events.Aim caller addr) = refl
step_shape k u (events.Wide unit caller rrid kind len) = refl

-- So do all units of a history.

abbrev shapes_of : List UnitState → List Shape
shapes_of us = map (λ u. u.registers.shape) us

set_shapes : (us : List UnitState) (v : ℕ) (x y : UnitState) → slice_get us v ≡ Some x → y.registers.shape ≡ x.registers.shape → shapes_of (set us v y) ≡ shapes_of us
set_shapes [] v x y q s = refl
set_shapes (u ∷ us) zero x y q s = let same : u ≡ x = cc in ap (λ (h : Shape). h ∷ shapes_of us) (s ∙ ap (λ (z : UnitState). z.registers.shape) (sym same))
set_shapes (u ∷ us) (suc v) x y q s = ap (λ (hs : List Shape). u.registers.shape ∷ hs) (set_shapes us v x y q s)

at_shapes : (k : ℕ) (us : List UnitState) (e : Event) (v : ℕ) (o : Option UnitState) → slice_get us v ≡ o → shapes_of (step_at k us e v o).0 ≡ shapes_of us
at_shapes k us e v None q = refl
at_shapes k us e v (Some x) q = set_shapes us v x (unit_step k x e).0 q (step_shape k x e)

on_shapes : (k : ℕ) (us : List UnitState) (e : Event) (o : Option ℕ) → shapes_of (step_on k us e o).0 ≡ shapes_of us
on_shapes k us e None = refl
on_shapes k us e (Some v) = at_shapes k us e v (slice_get us v) refl

taken_shapes : (k : ℕ) (us : List UnitState) (o : Option Event) → shapes_of (taken_step k us o).0 ≡ shapes_of us
taken_shapes k us None = refl
taken_shapes k us (Some e) = on_shapes k us e (unit_of e)

event_shapes : (k : ℕ) (aims : List ℕ) (us : List UnitState) (o : Option Event) → shapes_of (after_event k aims us o) ≡ shapes_of us
event_shapes k aims us None = refl
event_shapes k aims us (Some (events.Aim c a)) = refl
event_shapes k aims us (Some (events.RegWrite u c i v)) = taken_shapes k us (taken_as aims (events.RegWrite u c i v))
event_shapes k aims us (Some (events.RegRead u c i)) = taken_shapes k us (taken_as aims (events.RegRead u c i))
event_shapes k aims us (Some (events.Submit u c a)) = taken_shapes k us (taken_as aims (events.Submit u c a))
event_shapes k aims us (Some (events.Judge u c p)) = taken_shapes k us (taken_as aims (events.Judge u c p))
event_shapes k aims us (Some (events.Wide u c r w n)) = taken_shapes k us (taken_as aims (events.Wide u c r w n))

reset_shapes : (shapes : List Shape) → shapes_of (map unit_at_reset shapes) ≡ shapes
reset_shapes [] = refl
reset_shapes (s ∷ ss) = ap (λ (hs : List Shape). s ∷ hs) (reset_shapes ss)

shapes_stay : (h : History) (k : ℕ) → shapes_of (units_at h k) ≡ h.shapes
shapes_stay h zero = reset_shapes h.shapes
shapes_stay h (suc k) = event_shapes k (aims_at h k) (units_at h k) (slice_get h.events k) ∙ shapes_stay h k

-- ---- what stands in lists

shape_valid : (us : List UnitState) (u : ℕ) (x : UnitState) → AllByRecursion IsValidShape (shapes_of us) → slice_get us u ≡ Some x → IsValidShape x.registers.shape
shape_valid [] u x all q = absurd (let n : None ≡ Some x = q in cc)
shape_valid (y ∷ us) zero x all q = let same : y ≡ x = cc in subst (λ (z : UnitState). IsValidShape z.registers.shape) same all.0
shape_valid (y ∷ us) (suc u) x all q = shape_valid us u x all.1 q

event_valid : (shapes : List Shape) (words : List ℕ) → AllEventWords words → (k : ℕ) (e : Event) → event_at (history_of shapes words) k ≡ Some e → IsValidEvent e
event_valid shapes words all k e q = there (slice_get words k) refl (sym (events_at_words words all k) ∙ q)
  where
    there : (o : Option ℕ) → slice_get words k ≡ o → option_and_then event_of_word o ≡ Some e → IsValidEvent e
    there None p r = absurd (let n : None ≡ Some e = r in cc)
    there (Some w) p r =
        let h = word_at_place words all k w p in
        let same : h.event ≡ e = let s : Some h.event ≡ Some e = sym h.back ∙ r in cc in
        subst IsValidEvent same h.valid

-- ---- the requester that goes on

abbrev submission : ℕ → ℕ → Access → SubmittedAccess
submission u c a = record { unit = u; caller = c; access = a }

same_access : (v d u c : ℕ) (b a : Access) → Some (submission v d b) ≡ Some (submission u c a) → b.rrid ≡ a.rrid
same_access v d u c b a e = let same : submission v d b ≡ submission u c a = cc in ap (λ (s : SubmittedAccess). s.access.rrid) same

-- what a valid event submits has a requester
small_submitted : (aims : List ℕ) (o : Option Event) (u c : ℕ) (a : Access) → ((e : Event) → o ≡ Some e → IsValidEvent e) → option_and_then submitted (option_and_then (taken_as aims) o) ≡ Some (submission u c a) → a.rrid ≤ 63
small_submitted aims None u c a valid e = absurd (let n : None ≡ Some (submission u c a) = e in cc)
small_submitted aims (Some (events.RegWrite v d i n)) u c a valid e = absurd (let n : None ≡ Some (submission u c a) = e in cc)
small_submitted aims (Some (events.RegRead v d i)) u c a valid e = absurd (let n : None ≡ Some (submission u c a) = e in cc)
small_submitted aims (Some (events.Judge v d p)) u c a valid e = absurd (let n : None ≡ Some (submission u c a) = e in cc)
small_submitted aims (Some (events.Aim d p)) u c a valid e = absurd (let n : None ≡ Some (submission u c a) = e in cc)
small_submitted aims (Some (events.Submit v d b)) u c a valid e =
    subst (λ (n : ℕ). n ≤ 63) (same_access v d u c b a e) (valid (events.Submit v d b) refl).1.rrid
small_submitted aims (Some (events.Wide v d r k n)) u c a valid e =
    let b : Access = wide_access aims d r k n in
    let some : Event = events.Submit v d b in by_test (nat_le (b.addr + b.len) (2 ^ 52)) _
    (λ fits.
    let is : Some (submission v d b) ≡ Some (submission u c a) = subst (λ (t : Bool). option_and_then submitted (if t then Some some else None) ≡ Some (submission u c a)) fits e in
    subst (λ (n : ℕ). n ≤ 63) (same_access v d u c b a is) (valid (events.Wide v d r k n) refl).1)
    (λ past. absurd (let n : None ≡ Some (submission u c a) = subst (λ (t : Bool). option_and_then submitted (if t then Some some else None) ≡ Some (submission u c a)) past e in cc))

small_next : (transl : Option ℕ) (rrid : ℕ) → IfSome transl (λ r. r ≤ 63) → rrid ≤ 63 → unwrap_or transl rrid ≤ 63
small_next None rrid t h = h
small_next (Some r) rrid t h = t

next_is : (x : UnitState) (a : Access) (d : Decision) (next : ℕ) → verdicts.Allowed next ≡ verdict_of x a d → next ≡ next_rrid x a
next_is x a decisions.Allowed next e = let s : verdicts.Allowed next ≡ verdicts.Allowed (next_rrid x a) = e in cc
next_is x a (decisions.Denied kind entry mute_irq mute_err) next e = absurd (let s : verdicts.Allowed next ≡ verdicts.Denied (denial x.registers kind entry mute_irq mute_err) = e in cc)

next_small : (shapes : List Shape) (words : List ℕ) → AllByRecursion IsValidShape shapes → AllEventWords words → (u c s k next : ℕ) → IsDecided (history_of shapes words) u c s k (verdicts.Allowed next) → next ≤ 63
next_small shapes words valid all u c s k next d =
    let h : History = history_of shapes words in
    let shape : IsValidShape d.state.registers.shape = shape_valid (units_at h k) u d.state (subst (AllByRecursion IsValidShape) (sym (shapes_stay h k)) valid) d.here in
    let rrid : d.access.rrid ≤ 63 = small_submitted (aims_at h s) (event_at h s) u c d.access (event_valid shapes words all s) d.submission.event in
    subst (λ (n : ℕ). n ≤ 63) (sym (next_is d.state d.access (decision d.state.registers d.access) next d.verdict_is)) (small_next d.state.registers.shape.transl d.access.rrid shape.transl rrid)

-- A port's judgement that allows carries a requester.
pub allowed_next : (p q : PortView) (u c s next : ℕ) → MakesEvent p (events.Judge u c s) (replies.Verdict (verdicts.Allowed next)) q → IsAtReset p.first → AllEventWords q.log → IsValidEvent (events.Judge u c s) → next ≤ 63
allowed_next p q u c s next m reset all valid =
    let e : Event = events.Judge u c s in
    let w : ℕ = word_of e in
    let words : List ℕ = p.log ++ m.between in
    let longer : AllEventWords (words ++ w ∷ []) = subst AllEventWords m.log all in
    let shapes : List Shape = reset.shapes in
    let replied : reply_to_word (run state_after_word (fabric_at_reset shapes) words) (length words) w ≡ replies.Verdict (verdicts.Allowed next) =
    ap (λ (x : FabricState). reply_to_word (run state_after_word x words) (length words) w) (sym reset.is)
    ∙ reply_of_event (length words) (state_after p words) e valid ∙ sym m.answered in
    let event : event_at (history_of shapes (words ++ w ∷ [])) (length words) ≡ Some e = event_at_words shapes (words ++ w ∷ []) longer (length words) w e (get_last words w) (event_of_word-word_of e valid) in
    let reply : reply_at (history_of shapes (words ++ w ∷ [])) (length words) ≡ Some (replies.Verdict (verdicts.Allowed next)) =
    reply_at_words shapes (words ++ w ∷ []) longer (length words) w (get_last words w)
    ∙ ap (λ (ws : List ℕ). Some (reply_to_word (run state_after_word (fabric_at_reset shapes) ws) (length words) w)) (take-append_seam words (w ∷ []))
    ∙ ap (λ (r : Reply). Some r) replied in
    next_small shapes (words ++ w ∷ []) reset.valid longer u c s (length words) next (law_verdicts (history_of shapes (words ++ w ∷ [])) u c s (length words) (verdicts.Allowed next) event reply)
