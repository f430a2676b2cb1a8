-- Busy stands only where the queue is full.
use Rattle.std.proofs.Common.{◌≡◌, ℕ, ◌≤◌, true, false, not, ltb, Some, subst, arith, ap}
use Rattle.std.proofs.lemmas.Bool.{cond_both, not-false, ltb-false}
use Rattle.event_words.specs.declared.access.Access.{Access}
use Rattle.event_words.specs.declared.event.Event.{Event}
use Rattle.event_words.specs.declared.event.Event.TheVariants.{RegWrite, RegRead, Submit, Judge, Aim, Wide}
use Rattle.event_words.specs.declared.reply.Reply.{Reply}
use Rattle.event_words.specs.declared.reply.Reply.TheVariants as replies
use Rattle.event_words.specs.declared.register.Register.TheVariants.{ErrCfg}
use Rattle.event_words.specs.Registers.{has_bit}
use Rattle.event_words.specs.Guards.{reg}
use Rattle.event_words.specs.Events.{unit_of}
use Rattle.unit_core.specs.Units.{UnitState, unit_step, submit_step, is_stalled, queue_length}
use Rattle.unit_core.specs.Histories.{History}
use Rattle.unit_core.specs.Submitted.{taken_at}
use Rattle.history_laws.specs.Busy.{KeepsBusy}
use Rattle.unit_core.proofs.Items.{judge_cases}
use Rattle.unit_core.proofs.Runs.{own_state, own_at, reply_is, event_of, answered_shape, submission_taken}
use Rattle.history_laws.proofs.QueueLaw.{own_sound}

record IsFullFor (x : UnitState) (a : Access) : Type 0 where
  pub stalled : is_stalled x a.rrid ≡ true
  pub full : x.registers.shape.queue ≤ queue_length x
  pub silent : has_bit (reg x.registers ErrCfg) 3 ≡ false

submit_busy : (k : ℕ) (x : UnitState) (caller : ℕ) (a : Access) → (submit_step k x caller a).1 ≡ replies.Busy → IsFullFor x a
submit_busy k x caller a =
    cond_both (not (is_stalled x a.rrid)) _ _ (λ (r : UnitState × Reply). r.1 ≡ replies.Busy → IsFullFor x a)
    (λ e q. absurd (let n : replies.Passed ≡ replies.Busy = q in cc))
    (λ e. cond_both (ltb (queue_length x) x.registers.shape.queue) _ _ (λ (r : UnitState × Reply). r.1 ≡ replies.Busy → IsFullFor x a)
    (λ f q. absurd (let n : replies.Queued ≡ replies.Busy = q in cc))
    (λ f. cond_both (has_bit (reg x.registers ErrCfg) 3) _ _ (λ (r : UnitState × Reply). r.1 ≡ replies.Busy → IsFullFor x a)
    (λ g q. absurd (let n : replies.Stalled _ ≡ replies.Busy = q in cc))
    (λ g q. record { stalled = not-false (is_stalled x a.rrid) e; full = ltb-false (queue_length x) x.registers.shape.queue f; silent = g })))

-- what is replied Busy is a submission
record IsTurnedAway (u : ℕ) (x : UnitState) (e : Event) : Type 0 where
  pub caller : ℕ
  pub access : Access
  pub event : e ≡ Submit u caller access
  pub full : IsFullFor x access

step_busy : (k u : ℕ) (x : UnitState) (e : Event) → unit_of e ≡ Some u → (unit_step k x e).1 ≡ replies.Busy → IsTurnedAway u x e
step_busy k u x (RegWrite unit caller index value) w q = absurd (let n : replies.Value _ ≡ replies.Busy = q in cc)
step_busy k u x (RegRead unit caller index) w q = absurd (let n : replies.Value _ ≡ replies.Busy = q in cc)
step_busy k u x (Submit unit caller a) w q = record { caller = caller; access = a; event = (let n : unit ≡ u = cc in ap (λ v. Submit v caller a) n); full = submit_busy k x caller a q }
step_busy k u x (Judge unit caller place) w q =
    absurd (judge_cases (λ r. r.1 ≡ replies.Busy → ⊥) x place caller
    (λ e q. let n : replies.NoSuch ≡ replies.Busy = q in cc)
    (λ item e f q. let n : replies.Held ≡ replies.Busy = q in cc)
    (λ item e f v q. let n : replies.Verdict v ≡ replies.Busy = q in cc)
    (λ item e f d v q. let n : replies.Verdict v ≡ replies.Busy = q in cc) q)
step_busy k u x (Aim caller addr) w q = absurd (let n : replies.NoSuch ≡ replies.Busy = q in cc)
step_busy k u x (Wide unit caller rrid kind len) w q = absurd (let n : replies.NoSuch ≡ replies.Busy = q in cc)

pub law_busy : (h : History) → KeepsBusy h
law_busy h k busy =
    let here = event_of h k replies.Busy busy (λ n. cc) (λ n. cc) in
    let e = here.0 in
    let there = answered_shape h k e replies.Busy here.1 busy (λ n. cc) in
    let x = own_state h there.unit there.shape k in
    let state = own_at h there.unit k there.shape there.there in
    let turned = step_busy k there.unit x e there.speaks (reply_is h k e there.unit replies.Busy x there.speaks here.1 busy state) in
    let sound = own_sound h there.unit there.shape k in
    record {
      unit = there.unit;
      caller = turned.caller;
      access = turned.access;
      state = x;
      event = submission_taken h k there.unit turned.caller turned.access (subst (λ f. taken_at h k ≡ Some f) turned.event here.1);
      here = state;
      stalled = turned.full.stalled;
      full = omega (arith, turned.full.full, sound.fits);
      silent = turned.full.silent;
    }
