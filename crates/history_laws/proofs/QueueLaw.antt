-- The law of queues, and what holds of a unit before each event of a history.
use Rattle.std.proofs.Common.{◌≡◌, ℕ, ◌+◌, ◌<◌, ◌≤◌, Bool, true, false, cond, length, sym, ap, ◌∙◌, subst, arith}
use Rattle.std.specs.List.{AllByRecursion}
use Rattle.std.proofs.lemmas.Bool.{ltb-true, lt-ltb, false≢true}
use Rattle.std.proofs.lemmas.List.{length-replicate}
use Rattle.std.proofs.lemmas.List.Elements.{All-from_recursion}
use Rattle.event_words.specs.declared.shape.Shape.{Shape}
use Rattle.event_words.specs.declared.access.Access.{Access}
use Rattle.event_words.specs.declared.reply.Denial.{Denial}
use Rattle.event_words.specs.declared.event.Event.{Event}
use Rattle.event_words.specs.declared.event.Event.TheVariants.{RegWrite, RegRead, Submit, Judge}
use Rattle.event_words.specs.Registers.{Registers, written, register_at}
use Rattle.event_words.specs.Denials.{recorded}
use Rattle.event_words.specs.Stalls.{flags_after}
use Rattle.unit_core.specs.declared.Submission.{Submission}
use Rattle.unit_core.specs.Places.{IsHeldBack}
use Rattle.event_words.proofs.ListItems.{all_push, all_of}
use Rattle.unit_core.proofs.HeldBack.{all_released}
use Rattle.unit_core.specs.Units.{UnitState, unit_step, after_write, closed, opened, is_stalled, queue_length}
use Rattle.unit_core.specs.Histories.{History}
use Rattle.history_laws.specs.Queues.{HasQueueInOrder, HasStalledRequester, LawQueued}
use Rattle.unit_core.proofs.Runs.{own_state, of_each, own_induction}
use Rattle.unit_core.proofs.Items.{submit_cases, judge_cases, all_without, count_append, count_without, count_released}
use Rattle.unit_core.proofs.Sims.{written_shape, recorded_shape, flags_after_len}
use Rattle.unit_core.proofs.Busy.{flag_known}

-- ---- the shape stays

pub written-shape : (r : Registers) (index value keep : ℕ) → (written r index value keep).shape ≡ r.shape
written-shape r index value keep = written_shape r index value keep (register_at r.shape index)

-- ---- what holds of a unit before each event

pub record IsSound (x : UnitState) : Type 0 where
  pub flags : length x.flags ≡ x.registers.shape.rrids
  pub held : AllByRecursion (IsHeldBack x.flags) x.submissions
  pub fits : queue_length x ≤ x.registers.shape.queue

recorded_sound : (x : UnitState) (a : Access) (d : Denial) → IsSound x → IsSound (record x { registers = recorded x.registers a d })
recorded_sound x a d h = record {
  flags = h.flags ∙ ap (λ (s : Shape). s.rrids) (sym (recorded_shape x.registers a d));
  held = h.held;
  fits = subst (λ (s : Shape). queue_length x ≤ s.queue) (sym (recorded_shape x.registers a d)) h.fits;
}

write_sound : (x : UnitState) (index value : ℕ) → IsSound x → IsSound (after_write x index value)
write_sound x index value h =
    let e = written-shape x.registers index value _ in
    record {
      flags = flags_after_len x.registers x.flags index value h.flags ∙ ap (λ (s : Shape). s.rrids) (sym e);
      held = all_released (flags_after x.registers x.flags index value) x.submissions;
      fits = subst (λ (s : Shape). queue_length (after_write x index value) ≤ s.queue) (sym e) (let c = count_released (flags_after x.registers x.flags index value) x.submissions in omega (arith, h.fits));
    }

closed_sound : (x : UnitState) (place caller : ℕ) → IsSound x → IsSound (closed place caller x)
closed_sound x place caller h = record {
  flags = h.flags;
  held = all_without (IsHeldBack x.flags) place caller x.submissions h.held;
  fits = omega (arith, h.fits, count_without place caller x.submissions);
}

opened_sound : (k : ℕ) (x : UnitState) (caller : ℕ) (a : Access) (queued : Bool) → (queued ≡ true → is_stalled x a.rrid ≡ true)
    → queue_length x + cond queued 1 0 ≤ x.registers.shape.queue → IsSound x → IsSound (opened k caller a queued x)
opened_sound k x caller a queued s room h = record {
  flags = h.flags;
  held = all_push (IsHeldBack x.flags) x.submissions _ h.held s;
  fits = omega (arith, room, count_append x.submissions (record { place = k; caller = caller; access = a; queued = queued }));
}

step_sound : (k : ℕ) (x : UnitState) (e : Event) → IsSound x → IsSound (unit_step k x e).0
step_sound k x (RegWrite unit caller index value) h = write_sound x index value h
step_sound k x (RegRead unit caller index) h = h
step_sound k x (Submit unit caller a) h =
    submit_cases (λ r. IsSound r.0) k x caller a
    (λ e. opened_sound k x caller a false (λ q. absurd (false≢true q)) (omega (arith, h.fits)) h)
    (λ e f. opened_sound k x caller a true (λ q. e) (omega (arith, ltb-true (queue_length x) x.registers.shape.queue f)) h)
    (λ d. recorded_sound x a d h) h
step_sound k x (Judge unit caller place) h =
    judge_cases (λ r. IsSound r.0) x place caller (λ e. h) (λ item e f. h) (λ item e f v. closed_sound x place caller h)
    (λ item e f d v. recorded_sound (closed place caller x) item.access d (closed_sound x place caller h))
step_sound k x _ h = h

pub own_sound : (h : History) (u : ℕ) (shape : Shape) (k : ℕ) → IsSound (own_state h u shape k)
own_sound h u shape k =
    own_induction (λ k x. IsSound x) h u shape (record { flags = length-replicate shape.rrids false; held = tt; fits = omega arith }) (λ k x s. s) (λ k x e q t s. step_sound k x e s) k

pub law_queued : LawQueued
law_queued h k u = of_each HasQueueInOrder h u k (λ shape e.
    let x = own_state h u shape k in
    let s = own_sound h u shape k in
    record {
      stalled = All-from_recursion (λ (item : Submission). item.queued ≡ true → HasStalledRequester x item) x.submissions (all_of (IsHeldBack x.flags) (λ (item : Submission). item.queued ≡ true → HasStalledRequester x item) x.submissions (λ item held q. (lt-ltb item.access.rrid x.registers.shape.rrids (subst (λ n. item.access.rrid < n) s.flags (flag_known x.flags item.access.rrid (held q))), held q)) s.held);
      fits = s.fits;
    })
