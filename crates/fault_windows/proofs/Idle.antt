-- What is late at a place, what it shows, and what stays where it is neither.
use Rattle.std.proofs.Common.{◌≡◌, ℕ, suc, ◌+◌, ◌^◌, ◌<◌, leb, List, Bool, true, false, not, ◌&&◌, ◌||◌, eqb, Option, Some, None, refl, sym, ap, ◌∙◌, subst}
use Rattle.std.specs.Prelude.{nat_eq, option_and_then}
use Rattle.std.specs.Option.{option_eq}
use Rattle.std.proofs.lemmas.Bool.{and_left, and_right, cond-true, cond-false, cond_both, ne_eqb, and_from, false_from_ne_true}
use Rattle.std.proofs.Math.Bool.{and-true}
use Rattle.event_words.specs.declared.access.Access.{Access}
use Rattle.event_words.specs.declared.event.Event.{Event}
use Rattle.event_words.specs.declared.event.Event.TheVariants.{RegWrite, RegRead, Submit, Judge, Aim, Wide}
use Rattle.event_words.specs.declared.reply.Reply.{Reply}
use Rattle.event_words.specs.Events.{unit_of}
use Rattle.event_words.specs.Registers.{has_bit}
use Rattle.unit_core.specs.Units.{taken_as, submission_of, wide_access}
use Rattle.unit_core.specs.Histories.{History, aims_at, state_at, event_at, reply_at}
use Rattle.unit_core.specs.Submitted.{taken_at}
use Rattle.fault_windows.specs.declared.monitor.UnitFaults.{UnitFaults}
use Rattle.fault_windows.specs.LateViolations.{requester_of, is_kept_violation, is_recorded, is_late_by, is_late}
use Rattle.fault_windows.specs.Windows.{reads_windows, is_reading, window_of, next_window, is_pending, pending_after, shown_before, pending_at, turn_at, window_at}
use Rattle.fault_windows.specs.Kept.{requesters_in, HasSeenUnit}
use Rattle.fault_windows.proofs.Tests.{same_filter, same_passes}
use Rattle.fault_windows.proofs.Places.{some_same, same_some, pending_next, turn_next, after_shown}
use Rattle.fault_windows.proofs.Records.{IsElsewhere, state_other}

-- ---- late at this place

late_is : (h : History) (u s k : ℕ) (e : Event) (r : Reply) → taken_at h k ≡ Some e → reply_at h k ≡ Some r
    → is_late h u s k ≡ (option_eq nat_eq (unit_of e) (Some u) && (option_eq nat_eq (requester_of h e) (Some s) && (is_kept_violation r && is_recorded (state_at h k u))))
late_is h u s k e r p q =
    ap (λ o. is_late_by h u s k o (reply_at h k)) p ∙ ap (is_late_by h u s k (Some e)) q

-- what no unit takes, or another
late_other : (h : History) (u s k : ℕ) (r : Reply) → reply_at h k ≡ Some r → IsElsewhere u (taken_at h k) → is_late h u s k ≡ false
late_other h u s k r q = by_taken (taken_at h k) refl
  where
    by_taken : (o : Option Event) → taken_at h k ≡ o → IsElsewhere u o → is_late h u s k ≡ false
    by_taken None p i = ap (λ o. is_late_by h u s k o (reply_at h k)) p
    by_taken (Some e) p i = late_is h u s k e r p q ∙ and_left _ _ (false_from_ne_true _ (λ t. i (some_same (unit_of e) u t)))

pub late_nobody : (h : History) (u s k : ℕ) (e : Event) (r : Reply) → taken_at h k ≡ Some e → reply_at h k ≡ Some r → requester_of h e ≡ None → is_late h u s k ≡ false
late_nobody h u s k e r p q n =
    late_is h u s k e r p q ∙ and_right (option_eq nat_eq (unit_of e) (Some u)) _ (and_left _ _ (ap (λ o. option_eq nat_eq o (Some s)) n))

pub late_muted : (h : History) (u s k : ℕ) (e : Event) (r : Reply) → taken_at h k ≡ Some e → reply_at h k ≡ Some r → is_kept_violation r ≡ false → is_late h u s k ≡ false
late_muted h u s k e r p q n =
    late_is h u s k e r p q ∙ and_right (option_eq nat_eq (unit_of e) (Some u)) _ (and_right (option_eq nat_eq (requester_of h e) (Some s)) _ (and_left _ _ n))

pub late_free : (h : History) (u s k : ℕ) (e : Event) (r : Reply) → taken_at h k ≡ Some e → reply_at h k ≡ Some r → is_recorded (state_at h k u) ≡ false → is_late h u s k ≡ false
late_free h u s k e r p q n =
    late_is h u s k e r p q ∙ and_right (option_eq nat_eq (unit_of e) (Some u)) _ (and_right (option_eq nat_eq (requester_of h e) (Some s)) _ (and_right (is_kept_violation r) _ n))

pub late_now : (h : History) (u s t k : ℕ) (e : Event) (r : Reply) → taken_at h k ≡ Some e → reply_at h k ≡ Some r → unit_of e ≡ Some u → requester_of h e ≡ Some t → is_kept_violation r ≡ true → is_recorded (state_at h k u) ≡ true
    → is_late h u s k ≡ eqb t s
late_now h u s t k e r p q on n v b =
    late_is h u s k e r p q
    ∙ (ap (λ x. x && (option_eq nat_eq (requester_of h e) (Some s) && (is_kept_violation r && is_recorded (state_at h k u)))) (same_some (unit_of e) u on)
    ∙ (ap (λ x. option_eq nat_eq (requester_of h e) (Some s) && x) (and_from _ _ v b) ∙ (and-true _ ∙ ap (λ o. option_eq nat_eq o (Some s)) n)))

-- ---- windows at this place

pub window_here : (h : History) (u k : ℕ) → is_reading h u k ≡ true → window_at h u k ≡ next_window (turn_at h u k) (pending_at h u k)
window_here h u k t = cond-true (is_reading h u k) (next_window (turn_at h u k) (pending_at h u k)) None t

pub window_none : (h : History) (u k : ℕ) → is_reading h u k ≡ false → window_at h u k ≡ None
window_none h u k f = cond-false (is_reading h u k) (next_window (turn_at h u k) (pending_at h u k)) None f

other_reads : (u : ℕ) (e : Event) → (unit_of e ≡ Some u → ⊥) → reads_windows u (Some e) ≡ false
other_reads u (RegRead unit caller index) ne = and_left _ _ (ne_eqb unit u (λ q. ne (ap (λ n. Some n) q)))
other_reads u (RegWrite unit caller index value) ne = refl
other_reads u (Submit unit caller a) ne = refl
other_reads u (Judge unit caller place) ne = refl
other_reads u (Aim caller addr) ne = refl
other_reads u (Wide unit caller rrid kind len) ne = refl

-- ---- the requesters, one place on

pub next_pending : (h : History) (u k old new : ℕ) → requesters_in old ≡ pending_at h u k
    → ((s : ℕ) → s < 64 → has_bit new s ≡ (is_late h u s k || (has_bit old s && not (option_eq nat_eq (window_at h u k) (Some (window_of s))))))
    → requesters_in new ≡ pending_at h u (suc k)
unfolding requesters_in pending_after
next_pending h u k old new e each =
    same_filter (has_bit new) (is_pending h u (shown_before h u (suc k)) (suc k)) 0 64
    (λ s l m. each s m ∙ (ap (λ b. is_late h u s k || (b && not (option_eq nat_eq (window_at h u k) (Some (window_of s))))) (same_passes (has_bit old) (is_pending h u (shown_before h u k) k) 64 s e m) ∙ sym (pending_next h u s k)))

still : (b c d : Bool) → c ≡ false → d ≡ false → b ≡ (c || (b && not d))
still true c d p q = rw (p, q) refl
still false c d p q = rw p refl

-- where nothing is late and no window is shown
idle_pending : (h : History) (u k : ℕ) → window_at h u k ≡ None → ((s : ℕ) → is_late h u s k ≡ false) → pending_at h u k ≡ pending_at h u (suc k)
unfolding pending_after
idle_pending h u k n late =
    same_filter (is_pending h u (shown_before h u k) k) (is_pending h u (shown_before h u (suc k)) (suc k)) 0 64
    (λ s l m. still (is_pending h u (shown_before h u k) k s) _ _ (late s) (ap (λ o. option_eq nat_eq o (Some (window_of s))) n) ∙ sym (pending_next h u s k))

pub idle_turn : (h : History) (u k : ℕ) → window_at h u k ≡ None → turn_at h u k ≡ turn_at h u (suc k)
idle_turn h u k n = ap (after_shown (turn_at h u k)) (sym n) ∙ sym (turn_next h u k)

pub quiet : (h : History) (u k : ℕ) (x y : UnitFaults) → HasSeenUnit h k u x → window_at h u k ≡ None → ((s : ℕ) → is_late h u s k ≡ false)
    → y.pending ≡ x.pending → y.turn ≡ x.turn → y.recorded ≡ is_recorded (state_at h (suc k) u) → HasSeenUnit h (suc k) u y
quiet h u k x y seen n late p t r = record {
  pending = ap requesters_in p ∙ (seen.pending ∙ idle_pending h u k n late);
  turn = t ∙ (seen.turn ∙ idle_turn h u k n);
  recorded = r;
}

-- What is no reading, and is taken by no unit or by another.
pub elsewhere_seen : (h : History) (u k : ℕ) (r : Reply) (x : UnitFaults) → is_reading h u k ≡ false → reply_at h k ≡ Some r → IsElsewhere u (taken_at h k) → HasSeenUnit h k u x → HasSeenUnit h (suc k) u x
elsewhere_seen h u k r x f q i seen =
    quiet h u k x x seen (window_none h u k f) (λ s. late_other h u s k r q i) refl refl
    (seen.recorded ∙ ap is_recorded (sym (state_other h k u i)))

pub taken_is : (h : History) (k : ℕ) (e : Event) → event_at h k ≡ Some e → taken_at h k ≡ taken_as (aims_at h k) e
taken_is h k e p = ap (option_and_then (taken_as (aims_at h k))) p

pub by_end : (P : Option Event → Type 0) (unit caller : ℕ) (a : Access) → P (Some (Submit unit caller a)) → P None → P (submission_of unit caller a)
by_end P unit caller a x y = cond_both (leb (a.addr + a.len) (2 ^ 52)) (Some (Submit unit caller a)) None P (λ e. x) (λ e. y)

other_taken : (aims : List ℕ) (u : ℕ) (e : Event) → (unit_of e ≡ Some u → ⊥) → IsElsewhere u (taken_as aims e)
other_taken aims u (RegWrite unit caller index value) ne = ne
other_taken aims u (RegRead unit caller index) ne = ne
other_taken aims u (Submit unit caller a) ne = ne
other_taken aims u (Judge unit caller place) ne = ne
other_taken aims u (Aim caller addr) ne = tt
other_taken aims u (Wide unit caller rrid kind len) ne = by_end (IsElsewhere u) unit caller (wide_access aims caller rrid kind len) ne tt

-- what an event on another unit, or on none, leaves
pub record IsIdle (h : History) (u k : ℕ) : Type 0 where
  pub pending : pending_at h u k ≡ pending_at h u (suc k)
  pub turn : turn_at h u k ≡ turn_at h u (suc k)
  pub recorded : is_recorded (state_at h k u) ≡ is_recorded (state_at h (suc k) u)

pub other_idle : (h : History) (u k : ℕ) (e : Event) (r : Reply) → event_at h k ≡ Some e → reply_at h k ≡ Some r → (unit_of e ≡ Some u → ⊥) → IsIdle h u k
other_idle h u k e r p q ne =
    let none = window_none h u k (ap (reads_windows u) p ∙ other_reads u e ne) in
    let away : IsElsewhere u (taken_at h k) = subst (IsElsewhere u) (sym (taken_is h k e p)) (other_taken (aims_at h k) u e ne) in
    record {
      pending = idle_pending h u k none (λ s. late_other h u s k r q away);
      turn = idle_turn h u k none;
      recorded = ap is_recorded (sym (state_other h k u away));
    }
