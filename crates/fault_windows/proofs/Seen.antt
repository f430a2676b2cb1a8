-- What is kept of one unit, one place on.
use Rattle.std.proofs.Common.{◌≡◌, ℕ, suc, ◌^◌, Bool, true, false, not, ◌&&◌, ◌||◌, eqb, Option, Some, None, filter, bit_or, refl, sym, ap, ◌∙◌, subst, ◌⊎◌, inl, inr}
use Rattle.std.specs.Prelude.{nat_eq, option_map, option_and_then}
use Rattle.std.specs.Option.{option_eq}
use Rattle.std.specs.List.{range_with_len}
use Rattle.std.proofs.lemmas.Bool.{and_right, cond-true, cond-false, eq-eqb, ne_eqb, and_from}
use Rattle.std.proofs.Math.Bool.{and-true}
use Rattle.event_words.specs.declared.access.Access.{Access}
use Rattle.event_words.specs.declared.access.Kind.{Kind}
use Rattle.event_words.specs.declared.event.Event.{Event}
use Rattle.event_words.specs.declared.event.Event.TheVariants.{RegWrite, RegRead, Submit, Judge, Aim, Wide}
use Rattle.event_words.specs.declared.reply.Reply.{Reply}
use Rattle.event_words.specs.declared.reply.Reply.TheVariants as replies
use Rattle.event_words.specs.Events.{unit_of}
use Rattle.event_words.specs.declared.register.Register.TheVariants.{ErrInfo}
use Rattle.event_words.specs.Registers.{index_of, has_bit}
use Rattle.event_words.proofs.Cases.{by_test}
use Rattle.unit_core.specs.Units.{taken_as, wide_access, taken_step, event_step}
use Rattle.unit_core.specs.Histories.{History, units_at, aims_at, state_at, event_at, reply_at}
use Rattle.unit_core.specs.Submitted.{taken_at}
use Rattle.unit_core.proofs.Lists.{filter_both}
use Rattle.unit_core.proofs.Runs.{some_same}
use Rattle.fault_windows.specs.declared.Shown.{Shown}
use Rattle.fault_windows.specs.declared.monitor.UnitFaults.{UnitFaults}
use Rattle.fault_windows.specs.LateViolations.{requester_of, is_kept_violation, is_recorded, is_late}
use Rattle.fault_windows.specs.Windows.{windows_index, reads_windows, is_reading, window_of, is_in_window, window_bits, next_window, pending_at, turn_at, window_at, shown_at}
use Rattle.fault_windows.specs.Monitors.{requester_at, IsPlace, shown_by}
use Rattle.fault_windows.specs.Kept.{requesters_in, HasSeenUnit, HasSeenOn, violated, answered, rewritten, shown_window, IsShown}
use Rattle.fault_windows.proofs.Tests.{same_passes, eqb_turned}
use Rattle.fault_windows.proofs.Bits.{with_bit}
use Rattle.fault_windows.proofs.Places.{turn_next, after_shown}
use Rattle.fault_windows.proofs.Records.{or_false, bit_after, recorded_next, IsElsewhere}
use Rattle.fault_windows.proofs.Idle.{late_nobody, late_muted, late_free, late_now, window_here, window_none, next_pending, idle_turn, quiet, elsewhere_seen, taken_is, by_end}

-- ---- readings

turned_test : (w s : ℕ) → not (is_in_window w s) ≡ not (option_eq nat_eq (Some w) (Some (window_of s)))
turned_test w s = ap not (eqb_turned (window_of s) w)

shown_pending : (h : History) (u k w old new : ℕ) → requesters_in old ≡ pending_at h u k → window_at h u k ≡ Some w → ((s : ℕ) → is_late h u s k ≡ false)
    → requesters_in new ≡ filter (λ s. not (is_in_window w s)) (requesters_in old) → requesters_in new ≡ pending_at h u (suc k)
unfolding requesters_in
shown_pending h u k w old new e n late f =
    next_pending h u k old new e (λ s m.
    same_passes (has_bit new) (λ s. has_bit old s && not (is_in_window w s)) 64 s (f ∙ filter_both (λ s. not (is_in_window w s)) (has_bit old) (λ s. has_bit old s && not (is_in_window w s)) (λ s. refl) (range_with_len 0 64)) m
    ∙ (ap (λ b. has_bit old s && b) (turned_test w s) ∙ (ap (λ o. has_bit old s && not (option_eq nat_eq o (Some (window_of s)))) (sym n)
    ∙ ap (λ b. b || (has_bit old s && not (option_eq nat_eq (window_at h u k) (Some (window_of s))))) (sym (late s)))))

pub reading_seen : (h : History) (k unit caller : ℕ) (r : Reply) (x y : UnitFaults) (shown : Option Shown) → event_at h k ≡ Some (RegRead unit caller windows_index) → reply_at h k ≡ Some r
    → HasSeenUnit h k unit x → IsShown unit (shown_window x) x y shown → HasSeenUnit h (suc k) unit y × (shown ≡ shown_at h unit k)
reading_seen h k unit caller r x y shown p q seen = by_window (shown_window x) refl
  where
    reads : is_reading h unit k ≡ true
    reads = ap (reads_windows unit) p ∙ and_from _ _ (eq-eqb unit unit refl) refl

    window : window_at h unit k ≡ shown_window x
    window = window_here h unit k reads ∙ (ap (λ t. next_window t (pending_at h unit k)) (sym seen.turn) ∙ ap (next_window x.turn) (sym seen.pending))

    late : (s : ℕ) → is_late h unit s k ≡ false
    late s = late_nobody h unit s k (RegRead unit caller windows_index) r (taken_is h k (RegRead unit caller windows_index) p) q refl

    bit : is_recorded (state_at h (suc k) unit) ≡ is_recorded (state_at h k unit)
    bit = recorded_next h k unit (RegRead unit caller windows_index) r (taken_is h k (RegRead unit caller windows_index) p) q refl

    by_window : (o : Option ℕ) → shown_window x ≡ o → IsShown unit o x y shown → HasSeenUnit h (suc k) unit y × (shown ≡ shown_at h unit k)
    by_window None e s = (
      quiet h unit k x y seen (window ∙ e) late (ap (λ (z : UnitFaults). z.pending) s.0) (ap (λ (z : UnitFaults). z.turn) s.0) (ap (λ (z : UnitFaults). z.recorded) s.0 ∙ (seen.recorded ∙ sym bit)),
      s.1 ∙ ap (option_map (λ w. record { unit = unit; window = w; bits = window_bits (pending_at h unit k) w })) (sym (window ∙ e)),
    )
    by_window (Some w) e s = (
      record {
        pending = shown_pending h unit k w x.pending y.pending seen.pending (window ∙ e) late s.2;
        turn = s.0 ∙ (ap (after_shown (turn_at h unit k)) (sym (window ∙ e)) ∙ sym (turn_next h unit k));
        recorded = s.1 ∙ (seen.recorded ∙ sym bit);
      },
      s.3 ∙ (ap (λ xs. Some (record { unit = unit; window = w; bits = window_bits xs w })) seen.pending
          ∙ ap (option_map (λ w. record { unit = unit; window = w; bits = window_bits (pending_at h unit k) w })) (sym (window ∙ e))),
    )

pub no_shown : (h : History) (u k : ℕ) → is_reading h u k ≡ false → None ≡ shown_at h u k
no_shown h u k f = ap (option_map (λ w. record { unit = u; window = w; bits = window_bits (pending_at h u k) w })) (sym (window_none h u k f))

pub elsewhere_reads : (u k : ℕ) (h : History) (caller index : ℕ) → event_at h k ≡ Some (RegRead u caller index) → (index ≡ windows_index → ⊥) → is_reading h u k ≡ false
elsewhere_reads u k h caller index p ne = ap (reads_windows u) p ∙ and_right (eqb u u) _ (ne_eqb index windows_index ne)

-- a read of another register
pub read_seen : (h : History) (k unit caller index : ℕ) (r : Reply) (x : UnitFaults) → event_at h k ≡ Some (RegRead unit caller index) → reply_at h k ≡ Some r → (index ≡ windows_index → ⊥)
    → HasSeenUnit h k unit x → HasSeenUnit h (suc k) unit x
read_seen h k unit caller index r x p q ne seen =
    quiet h unit k x x seen (window_none h unit k (elsewhere_reads unit k h caller index p ne)) (λ s. late_nobody h unit s k (RegRead unit caller index) r (taken_is h k (RegRead unit caller index) p) q refl) refl refl
    (seen.recorded ∙ sym (recorded_next h k unit (RegRead unit caller index) r (taken_is h k (RegRead unit caller index) p) q refl))

-- ---- writes

rewritten_pending : (x : UnitFaults) (index : ℕ) (r : Reply) → (rewritten x index r).pending ≡ x.pending
rewritten_pending x index (replies.Value word) = by_test (eqb index (index_of ErrInfo)) _ (λ e. rw e refl) (λ e. rw e refl)
rewritten_pending x index r = refl

rewritten_turn : (x : UnitFaults) (index : ℕ) (r : Reply) → (rewritten x index r).turn ≡ x.turn
rewritten_turn x index (replies.Value word) = by_test (eqb index (index_of ErrInfo)) _ (λ e. rw e refl) (λ e. rw e refl)
rewritten_turn x index r = refl

rewritten_bit : (x : UnitFaults) (unit caller index value : ℕ) (r : Reply) → (rewritten x index r).recorded ≡ bit_after x.recorded (RegWrite unit caller index value) r
rewritten_bit x unit caller index value (replies.Value word) = by_test (eqb index (index_of ErrInfo)) _ (λ e. rw e refl) (λ e. rw e refl)
rewritten_bit x unit caller index value r = refl

pub write_seen : (h : History) (k unit caller index value : ℕ) (r : Reply) (x : UnitFaults) → event_at h k ≡ Some (RegWrite unit caller index value) → reply_at h k ≡ Some r
    → HasSeenUnit h k unit x → HasSeenUnit h (suc k) unit (rewritten x index r)
write_seen h k unit caller index value r x p q seen =
    quiet h unit k x (rewritten x index r) seen (window_none h unit k (ap (reads_windows unit) p)) (λ s. late_nobody h unit s k (RegWrite unit caller index value) r (taken_is h k (RegWrite unit caller index value) p) q refl)
    (rewritten_pending x index r) (rewritten_turn x index r)
    (rewritten_bit x unit caller index value r ∙ (ap (λ b. bit_after b (RegWrite unit caller index value) r) seen.recorded ∙ sym (recorded_next h k unit (RegWrite unit caller index value) r (taken_is h k (RegWrite unit caller index value) p) q refl)))

-- ---- submissions and judgements

or_yes : (b : Bool) → true ≡ (b || true)
or_yes true = refl
or_yes false = refl

with_late : (b c : Bool) → (c || b) ≡ (c || (b && not false))
with_late b c = ap (λ x. c || x) (sym (and-true b))

-- what is taken is one, by how the record's bit goes on
answered_by : (h : History) (k s u : ℕ) (e : Event) (r : Reply) (x : UnitFaults) → is_reading h u k ≡ false → taken_at h k ≡ Some e → reply_at h k ≡ Some r → unit_of e ≡ Some u
    → (is_kept_violation r ≡ true → requester_at h k ≡ Some s) → ((b : Bool) → bit_after b e r ≡ (b || is_kept_violation r))
    → HasSeenUnit h k u x → HasSeenUnit h (suc k) u (answered x s r)
answered_by h k s u e r x f p q on who after seen = by_test (is_kept_violation r) _
    (λ kept. subst (HasSeenUnit h (suc k) u) (sym (cond-true _ (violated x s) x kept)) (by_test x.recorded _
    (λ held. subst (HasSeenUnit h (suc k) u) (sym (cond-true _ (record x { pending = bit_or x.pending (2 ^ s) }) (record x { recorded = true }) held))
    (record {
      pending = next_pending h u k x.pending (bit_or x.pending (2 ^ s)) seen.pending (λ t m.
          with_bit x.pending s t ∙ (ap (λ c. c || has_bit x.pending t) (sym (late_now h u t s k e r p q on (sym (ap (option_and_then (requester_of h)) p) ∙ who kept) kept (sym seen.recorded ∙ held)))
          ∙ (with_late (has_bit x.pending t) (is_late h u t k) ∙ ap (λ o. is_late h u t k || (has_bit x.pending t && not (option_eq nat_eq o (Some (window_of t))))) (sym none))));
      turn = seen.turn ∙ idle_turn h u k none;
      recorded = held ∙ (or_yes (is_recorded (state_at h k u)) ∙ sym (bit ∙ ap (λ b. is_recorded (state_at h k u) || b) kept));
    }))
    (λ free. subst (HasSeenUnit h (suc k) u) (sym (cond-false _ (record x { pending = bit_or x.pending (2 ^ s) }) (record x { recorded = true }) free))
    (quiet h u k x (record x { recorded = true }) seen none (λ t. late_free h u t k e r p q (sym seen.recorded ∙ free)) refl refl
    (or_yes (is_recorded (state_at h k u)) ∙ sym (bit ∙ ap (λ b. is_recorded (state_at h k u) || b) kept))))))
    (λ muted. subst (HasSeenUnit h (suc k) u) (sym (cond-false _ (violated x s) x muted))
    (quiet h u k x x seen none (λ t. late_muted h u t k e r p q muted) refl refl
    (seen.recorded ∙ (or_false (is_recorded (state_at h k u)) ∙ sym (bit ∙ ap (λ b. is_recorded (state_at h k u) || b) muted)))))
  where
    none : window_at h u k ≡ None
    none = window_none h u k f

    bit : is_recorded (state_at h (suc k) u) ≡ (is_recorded (state_at h k u) || is_kept_violation r)
    bit = recorded_next h k u e r p q on ∙ after (is_recorded (state_at h k u))

submit_seen : (h : History) (k s unit caller : ℕ) (a : Access) (r : Reply) (x : UnitFaults) → IsPlace h k (Submit unit caller a) s r → HasSeenUnit h k unit x → HasSeenUnit h (suc k) unit (answered x s r)
submit_seen h k s unit caller a r x at =
    answered_by h k s unit (Submit unit caller a) r x (ap (reads_windows unit) at.event_is) (taken_is h k (Submit unit caller a) at.event_is) at.reply_is refl at.requester (λ b. refl)

judge_seen : (h : History) (k s unit caller place : ℕ) (r : Reply) (x : UnitFaults) → IsPlace h k (Judge unit caller place) s r → HasSeenUnit h k unit x → HasSeenUnit h (suc k) unit (answered x s r)
judge_seen h k s unit caller place r x at =
    answered_by h k s unit (Judge unit caller place) r x (ap (reads_windows unit) at.event_is) (taken_is h k (Judge unit caller place) at.event_is) at.reply_is refl at.requester (λ b. refl)

-- A Wide is taken as a submission, or isn't taken, and then its reply is no violation.
wide_seen : (h : History) (k s unit caller rrid : ℕ) (kind : Kind) (len : ℕ) (r : Reply) (x : UnitFaults) → IsPlace h k (Wide unit caller rrid kind len) s r → HasSeenUnit h k unit x → HasSeenUnit h (suc k) unit (answered x s r)
wide_seen h k s unit caller rrid kind len r x at seen = by_taken (taken_as (aims_at h k) wide) refl
  where
    wide : Event
    wide = Wide unit caller rrid kind len

    a : Access
    a = wide_access (aims_at h k) caller rrid kind len

    unread : is_reading h unit k ≡ false
    unread = ap (reads_windows unit) at.event_is

    reply : Some (taken_step k (units_at h k) (taken_as (aims_at h k) wide)).1 ≡ Some r
    reply = ap (option_map (λ e. (event_step k (aims_at h k) (units_at h k) e).1)) (sym at.event_is) ∙ at.reply_is

    none : taken_as (aims_at h k) wide ≡ None → HasSeenUnit h (suc k) unit (answered x s r)
    none p =
        let n : replies.NoSuch ≡ r = some_same replies.NoSuch r (ap (λ o. Some (taken_step k (units_at h k) o).1) (sym p) ∙ reply) in
        subst (λ r. HasSeenUnit h (suc k) unit (answered x s r)) n
        (elsewhere_seen h unit k r x unread at.reply_is (subst (IsElsewhere unit) (sym (taken_is h k wide at.event_is ∙ p)) tt) seen)

    some : taken_as (aims_at h k) wide ≡ Some (Submit unit caller a) → HasSeenUnit h (suc k) unit (answered x s r)
    some p = answered_by h k s unit (Submit unit caller a) r x unread (taken_is h k wide at.event_is ∙ p) at.reply_is refl at.requester (λ b. refl) seen

    by_taken : (o : Option Event) → taken_as (aims_at h k) wide ≡ o → HasSeenUnit h (suc k) unit (answered x s r)
    by_taken o p = by_end (λ o. taken_as (aims_at h k) wide ≡ o → HasSeenUnit h (suc k) unit (answered x s r)) unit caller a some none refl

-- ---- by the event

abbrev pub IsNext : History → ℕ → ℕ → Event → Reply → UnitFaults → UnitFaults → Option Shown → Type 0
IsNext h k s e r x y shown =
    HasSeenOn h k (unit_of e) x → IsPlace h k e s r → HasSeenOn h (suc k) (unit_of e) y × (shown ≡ shown_by h k e)

pub seen_shown : (h : History) (k s unit caller index : ℕ) (e : Event) (r : Reply) (x y : UnitFaults) (shown : Option Shown) → e ≡ RegRead unit caller index → index ≡ windows_index → IsShown unit (shown_window x) x y shown
    → IsNext h k s e r x y shown
seen_shown h k s unit caller index e r x y shown q i shows =
    subst (λ d. IsNext h k s d r x y shown) (sym q)
    (λ seen at. reading_seen h k unit caller r x y shown (at.event_is ∙ ap (λ n. Some (RegRead unit caller n)) i) at.reply_is seen shows)

pub seen_read : (h : History) (k s unit caller index : ℕ) (e : Event) (r : Reply) (x : UnitFaults) → e ≡ RegRead unit caller index → (index ≡ windows_index → ⊥) → IsNext h k s e r x x None
seen_read h k s unit caller index e r x q ne =
    subst (λ d. IsNext h k s d r x x None) (sym q)
    (λ seen at. (read_seen h k unit caller index r x at.event_is at.reply_is ne seen, no_shown h unit k (elsewhere_reads unit k h caller index at.event_is ne)))

pub seen_write : (h : History) (k s unit caller index value : ℕ) (e : Event) (r : Reply) (x y : UnitFaults) → e ≡ RegWrite unit caller index value → y ≡ rewritten x index r → IsNext h k s e r x y None
seen_write h k s unit caller index value e r x y q i =
    subst (λ d. IsNext h k s d r x y None) (sym q)
    (λ seen at. (subst (HasSeenUnit h (suc k) unit) (sym i) (write_seen h k unit caller index value r x at.event_is at.reply_is seen), no_shown h unit k (ap (reads_windows unit) at.event_is)))

pub seen_submit : (h : History) (k s unit caller : ℕ) (a : Access) (e : Event) (r : Reply) (x y : UnitFaults) → e ≡ Submit unit caller a → y ≡ answered x s r → IsNext h k s e r x y None
seen_submit h k s unit caller a e r x y q i =
    subst (λ d. IsNext h k s d r x y None) (sym q)
    (λ seen at. (subst (HasSeenUnit h (suc k) unit) (sym i) (submit_seen h k s unit caller a r x at seen), no_shown h unit k (ap (reads_windows unit) at.event_is)))

pub seen_judge : (h : History) (k s unit caller place : ℕ) (e : Event) (r : Reply) (x y : UnitFaults) → e ≡ Judge unit caller place → y ≡ answered x s r → IsNext h k s e r x y None
seen_judge h k s unit caller place e r x y q i =
    subst (λ d. IsNext h k s d r x y None) (sym q)
    (λ seen at. (subst (HasSeenUnit h (suc k) unit) (sym i) (judge_seen h k s unit caller place r x at seen), no_shown h unit k (ap (reads_windows unit) at.event_is)))

pub seen_wide : (h : History) (k s unit caller rrid : ℕ) (kind : Kind) (len : ℕ) (e : Event) (r : Reply) (x y : UnitFaults) → e ≡ Wide unit caller rrid kind len → y ≡ answered x s r → IsNext h k s e r x y None
seen_wide h k s unit caller rrid kind len e r x y q i =
    subst (λ d. IsNext h k s d r x y None) (sym q)
    (λ seen at. (subst (HasSeenUnit h (suc k) unit) (sym i) (wide_seen h k s unit caller rrid kind len r x at seen), no_shown h unit k (ap (reads_windows unit) at.event_is)))

pub seen_aim : (h : History) (k s caller addr : ℕ) (e : Event) (r : Reply) (x : UnitFaults) → e ≡ Aim caller addr → IsNext h k s e r x x None
seen_aim h k s caller addr e r x q = subst (λ d. IsNext h k s d r x x None) (sym q) (λ seen at. (tt, refl))

abbrev pub IsOneOf : Event → Type 0
IsOneOf e =
    ((unit : ℕ) × (caller : ℕ) × (a : Access) × (e ≡ Submit unit caller a))
    ⊎ ((unit : ℕ) × (caller : ℕ) × (place : ℕ) × (e ≡ Judge unit caller place))
    ⊎ ((unit : ℕ) × (caller : ℕ) × (rrid : ℕ) × (kind : Kind) × (len : ℕ) × (e ≡ Wide unit caller rrid kind len))

pub seen_answer : (h : History) (k s : ℕ) (e : Event) (r : Reply) (x y : UnitFaults) → IsOneOf e → y ≡ answered x s r → IsNext h k s e r x y None
seen_answer h k s e r x y (inl w) i = seen_submit h k s w.0 w.1 w.2 e r x y w.3 i
seen_answer h k s e r x y (inr (inl w)) i = seen_judge h k s w.0 w.1 w.2 e r x y w.3 i
seen_answer h k s e r x y (inr (inr w)) i = seen_wide h k s w.0 w.1 w.2 w.3 w.4 e r x y w.5 i
