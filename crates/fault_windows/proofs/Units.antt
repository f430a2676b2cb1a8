-- What is kept of four units, one place on.
use Rattle.std.proofs.Common.{◌≡◌, ℕ, suc, zero, ◌<◌, ◌≤◌, false, List, [], ◌∷◌, Option, Some, None, length, map, get_or, set, arith, refl, sym, ap, ◌∙◌, subst, ⊎_elim}
use Rattle.std.specs.Prelude.{slice_get, option_map}
use Rattle.std.proofs.lemmas.Bool.{cases_eq, cases_lt}
use Rattle.std.proofs.lemmas.Option.{slice_get-map, none-some, same_Some}
use Rattle.std.proofs.lemmas.List.{length-map, length-set, get_or-map, get_or-set_same, get_or-set_other, get_or_past, ext_get_or}
use Rattle.std.proofs.lemmas.List.FromFn.{get_or-map-range_with_len}
use Rattle.event_words.specs.declared.shape.Shape.{Shape}
use Rattle.event_words.specs.declared.event.Event.{Event}
use Rattle.event_words.specs.declared.event.Event.TheVariants.{RegWrite, RegRead, Submit, Judge, Aim, Wide}
use Rattle.event_words.specs.declared.reply.Reply.{Reply}
use Rattle.event_words.specs.declared.register.Register.TheVariants.{ErrInfo}
use Rattle.event_words.specs.Events.{unit_of}
use Rattle.event_words.specs.Valid.{IsValidEvent}
use Rattle.event_words.specs.Registers.{index_of, has_bit, reset_word, index_count, at_reset}
use Rattle.event_words.specs.Guards.{reg}
use Rattle.unit_core.specs.Units.{unit_at_reset}
use Rattle.unit_core.specs.Histories.{History, state_at}
use Rattle.fault_windows.specs.declared.monitor.UnitFaults.{UnitFaults}
use Rattle.fault_windows.specs.LateViolations.{is_recorded}
use Rattle.fault_windows.specs.Windows.{pending_after, pending_at, turn_at}
use Rattle.fault_windows.specs.Monitors.{MonitorOf, four_units, HasSeen, IsPlace}
use Rattle.fault_windows.specs.Kept.{requesters_in, monitor_view, HasSeenUnit, HasSeenOn}
use Rattle.fault_windows.proofs.Idle.{IsIdle, other_idle}

abbrev pub nothing : UnitFaults
nothing = record { pending = 0; turn = 0; recorded = false }

at_unit : {Y : Type 0} (f : UnitFaults → Y) (g : ℕ → Y) (units : List UnitFaults) (u : ℕ) (d : UnitFaults) → map f units ≡ map g four_units → u < 4 → f (get_or units u d) ≡ g u
at_unit f g units u d e l =
    let a = length-map units f in
    let b : length (map f units) ≡ 4 = ap length e in
    sym (get_or-map f units u d (g 0) (omega arith)) ∙ (ap (λ ys. get_or ys u (g 0)) e ∙ get_or-map-range_with_len g 0 4 u u (g 0) l (omega arith))

from_units : {Y : Type 0} (f : UnitFaults → Y) (g : ℕ → Y) (units : List UnitFaults) (d : UnitFaults) → length units ≡ 4 → ((u : ℕ) → u < 4 → f (get_or units u d) ≡ g u) → map f units ≡ map g four_units
from_units f g units d four each =
    let a = length-map units f in
    ext_get_or (g 0) (map f units) (map g four_units) (a ∙ four)
    (λ i l. get_or-map f units i d (g 0) (omega arith) ∙ (each i (omega arith) ∙ sym (get_or-map-range_with_len g 0 4 i i (g 0) (omega arith) (omega arith))))

four_of : (h : History) (k : ℕ) (units : List UnitFaults) → HasSeen h k (monitor_view units) → length units ≡ 4
four_of h k units seen = sym (length-map units (λ u. u.turn)) ∙ ap length seen.turns

pub each_seen : (h : History) (k u : ℕ) (units : List UnitFaults) (d : UnitFaults) → HasSeen h k (monitor_view units) → u < 4 → HasSeenUnit h k u (get_or units u d)
each_seen h k u units d seen l = record {
  pending = at_unit (λ u. requesters_in u.pending) (λ u. pending_at h u k) units u d seen.pending l;
  turn = at_unit (λ u. u.turn) (λ u. turn_at h u k) units u d seen.turns l;
  recorded = at_unit (λ u. u.recorded) (λ u. is_recorded (state_at h k u)) units u d seen.recorded l;
}

all_seen : (h : History) (k : ℕ) (units : List UnitFaults) (d : UnitFaults) → length units ≡ 4 → ((u : ℕ) → u < 4 → HasSeenUnit h k u (get_or units u d)) → HasSeen h k (monitor_view units)
all_seen h k units d four each = record {
  pending = from_units (λ u. requesters_in u.pending) (λ u. pending_at h u k) units d four (λ u l. (each u l).pending);
  turns = from_units (λ u. u.turn) (λ u. turn_at h u k) units d four (λ u l. (each u l).turn);
  recorded = from_units (λ u. u.recorded) (λ u. is_recorded (state_at h k u)) units d four (λ u l. (each u l).recorded);
}

below : (unit u : ℕ) → unit < 4 → Some unit ≡ Some u → u < 4
below unit u l q = let e : unit ≡ u = same_Some unit u q in omega arith

pub unit_below : (e : Event) (u : ℕ) → IsValidEvent e → unit_of e ≡ Some u → u < 4
unit_below (RegWrite unit caller index value) u v q = below unit u v.0.unit_below q
unit_below (RegRead unit caller index) u v q = below unit u v.0.unit_below q
unit_below (Submit unit caller a) u v q = below unit u v.0.unit_below q
unit_below (Judge unit caller place) u v q = below unit u v.0.unit_below q
unit_below (Aim caller addr) u v q = absurd (none-some u q)
unit_below (Wide unit caller rrid kind len) u v q = below unit u v.0.unit_below q

-- the part of the unit of which an event speaks
pub seen_on : (h : History) (k u : ℕ) (e : Event) (units : List UnitFaults) → IsValidEvent e → unit_of e ≡ Some u → HasSeen h k (monitor_view units) → HasSeenOn h k (unit_of e) (get_or units u nothing)
seen_on h k u e units v on seen =
    subst (λ o. HasSeenOn h k o (get_or units u nothing)) (sym on) (each_seen h k u units nothing seen (unit_below e u v on))

-- One unit goes on, and the others stay.
pub all_next : (h : History) (k s u : ℕ) (e : Event) (r : Reply) (units : List UnitFaults) (y : UnitFaults) → IsPlace h k e s r → unit_of e ≡ Some u → u < 4 → HasSeen h k (monitor_view units) → HasSeenOn h (suc k) (unit_of e) y
    → HasSeen h (suc k) (monitor_view (set units u y))
all_next h k s u e r units y at on l seen after =
    let next : HasSeenUnit h (suc k) u y = subst (λ o. HasSeenOn h (suc k) o y) on after in
    let four = four_of h k units seen in
    all_seen h (suc k) (set units u y) nothing (length-set units u y ∙ four) (λ v m. ⊎_elim
    (λ (same : v ≡ u). subst (λ n. HasSeenUnit h (suc k) n (get_or (set units u y) n nothing)) (sym same)
    (subst (HasSeenUnit h (suc k) u) (sym (get_or-set_same units u y nothing (omega arith))) next))
    (λ (other : v ≡ u → ⊥). subst (HasSeenUnit h (suc k) v) (sym (get_or-set_other units u v y nothing other))
    (let idle = other_idle h v k e r at.event_is at.reply_is (λ d. other (same_Some v u (sym d ∙ on))) in
    let was = each_seen h k v units nothing seen m in
    record { pending = was.pending ∙ idle.pending; turn = was.turn ∙ idle.turn; recorded = was.recorded ∙ idle.recorded }))
    (cases_eq v u))

same_four : {Y : Type 0} (f g : ℕ → Y) → ((u : ℕ) → f u ≡ g u) → map f four_units ≡ map g four_units
same_four f g e = rw (e 0, e 1, e 2, e 3) refl

-- An event that speaks of no unit.
pub none_next : (h : History) (k s : ℕ) (e : Event) (r : Reply) (m : MonitorOf) → IsPlace h k e s r → unit_of e ≡ None → HasSeen h k m → HasSeen h (suc k) m
none_next h k s e r m at on seen =
    let idle : (u : ℕ) → IsIdle h u k = λ u. other_idle h u k e r at.event_is at.reply_is (λ d. none-some u (sym on ∙ d)) in
    record {
      pending = seen.pending ∙ same_four (λ u. pending_at h u k) (λ u. pending_at h u (suc k)) (λ u. (idle u).pending);
      turns = seen.turns ∙ same_four (λ u. turn_at h u k) (λ u. turn_at h u (suc k)) (λ u. (idle u).turn);
      recorded = seen.recorded ∙ same_four (λ u. is_recorded (state_at h k u)) (λ u. is_recorded (state_at h (suc k) u)) (λ u. (idle u).recorded);
    }

-- ---- before the first event

reset_bit : (shape : Shape) → has_bit (reg (at_reset shape) ErrInfo) 0 ≡ false
reset_bit shape = subst (λ n. has_bit n 0 ≡ false) (sym (get_or-map-range_with_len (reset_word shape) 0 (index_count shape) (index_of ErrInfo) (index_of ErrInfo) 0 (omega arith) (omega arith))) refl

first_bit : (h : History) (u : ℕ) → is_recorded (state_at h 0 u) ≡ false
first_bit h u = ap is_recorded (slice_get-map unit_at_reset h.shapes u) ∙ by_shape (slice_get h.shapes u)
  where
    by_shape : (o : Option Shape) → is_recorded (option_map unit_at_reset o) ≡ false
    by_shape None = refl
    by_shape (Some shape) = reset_bit shape

none_pending : (h : History) (u : ℕ) → requesters_in 0 ≡ pending_at h u 0
unfolding requesters_in pending_after
none_pending h u = refl

first_unit : (h : History) (u : ℕ) → HasSeenUnit h 0 u nothing
first_unit h u = record { pending = none_pending h u; turn = refl; recorded = sym (first_bit h u) }

four_first : (h : History) (u : ℕ) → u < 4 → HasSeenUnit h 0 u (get_or (nothing ∷ nothing ∷ nothing ∷ nothing ∷ []) u nothing)
four_first h zero l = first_unit h 0
four_first h (suc zero) l = first_unit h 1
four_first h (suc (suc zero)) l = first_unit h 2
four_first h (suc (suc (suc zero))) l = first_unit h 3
four_first h (suc (suc (suc (suc u)))) l = absurd (omega arith)

pub first_seen : (h : History) → HasSeen h 0 (monitor_view (nothing ∷ nothing ∷ nothing ∷ nothing ∷ []))
first_seen h = all_seen h 0 (nothing ∷ nothing ∷ nothing ∷ nothing ∷ []) nothing refl (four_first h)

-- ---- how many requesters of a unit are pending

none_kept : requesters_in 0 ≡ []
unfolding requesters_in
none_kept = refl

pub count_at : (units : List UnitFaults) (u : ℕ) → length (requesters_in (get_or units u nothing).pending) ≡ length (get_or (monitor_view units).pending u [])
count_at units u = ⊎_elim
    (λ (below : u < length units). ap length (sym (get_or-map (λ u. requesters_in u.pending) units u nothing [] below)))
    (λ (past : length units ≤ u).
    let a = length-map units (λ (u : UnitFaults). requesters_in u.pending) in
    ap (λ (x : UnitFaults). length (requesters_in x.pending)) (get_or_past units u nothing past)
    ∙ (ap length none_kept ∙ sym (ap length (get_or_past (monitor_view units).pending u [] (omega arith)))))
    (cases_lt u (length units))
