-- What a monitor keeps, as contracts see it.
use Rattle.std.specs.Prelude.{◌==◌, ◌≡◌, ℕ, ◌+◌, ◌%◌, ◌<◌, ◌^◌, true, not, List, Option, Some, None, if◌then◌else◌, filter, map, bit_or}
use Rattle.std.specs.List.{range_with_len, AllByRecursion}
use Rattle.event_words.specs.declared.reply.Reply.{Reply}
use Rattle.event_words.specs.declared.reply.Reply.TheVariants.{Value}
use Rattle.event_words.specs.declared.register.Register.TheVariants.{ErrInfo}
use Rattle.event_words.specs.Registers.{index_of, has_bit}
use Rattle.unit_core.specs.Histories.{History, state_at}
use Rattle.fault_windows.specs.LateViolations.{is_kept_violation, is_recorded}
use Rattle.fault_windows.specs.declared.monitor.UnitFaults.{UnitFaults}
use Rattle.fault_windows.specs.declared.Shown.{Shown}
use Rattle.fault_windows.specs.Windows.{next_window, window_bits, is_in_window, pending_at, turn_at}
use Rattle.fault_windows.specs.Monitors.{MonitorOf}

-- the requesters whose bits are set, in ascending order
unfoldable pub requesters_in : ℕ → List ℕ
requesters_in word = filter (has_bit word) (range_with_len 0 64)

abbrev pub monitor_view : List UnitFaults → MonitorOf
monitor_view units = record {
  pending = map (λ u. requesters_in u.pending) units;
  turns = map (λ u. u.turn) units;
  recorded = map (λ u. u.recorded) units;
}

abbrev pub IsKept : UnitFaults → Type 0
IsKept u = u.turn < 4

abbrev pub AreKept : List UnitFaults → Type 0
AreKept units = AllByRecursion IsKept units

-- what is kept of unit u, where it has seen the events of the history before place k
pub record HasSeenUnit (h : History) (k u : ℕ) (x : UnitFaults) : Type 0 where
  pub pending : requesters_in x.pending ≡ pending_at h u k
  pub turn : x.turn ≡ turn_at h u k
  pub recorded : x.recorded ≡ is_recorded (state_at h k u)

-- the same of the unit of which an event speaks, if it speaks of one
abbrev pub HasSeenOn : History → ℕ → Option ℕ → UnitFaults → Type 0
HasSeenOn h k None x = Unit {0}
HasSeenOn h k (Some u) x = HasSeenUnit h k u x

-- ---- what one event does to a unit's part, whatever the history

-- a violation is recorded, or is late where a record stands
abbrev pub violated : UnitFaults → ℕ → UnitFaults
violated u s = if u.recorded then record u { pending = bit_or u.pending (2 ^ s) } else record u { recorded = true }

-- a submission or a judgement counts where it replies a kept violation
abbrev pub answered : UnitFaults → ℕ → Reply → UnitFaults
answered u s reply = if is_kept_violation reply then violated u s else u

-- a write replies the word that stands afterwards, here of ERR_INFO
abbrev pub rewritten : UnitFaults → ℕ → Reply → UnitFaults
rewritten u index (Value word) = if index == index_of ErrInfo then record u { recorded = has_bit word 0 } else u
rewritten u index _ = u

-- the window that a reading shows, by the bits that are kept
abbrev pub shown_window : UnitFaults → Option ℕ
shown_window u = next_window u.turn (requesters_in u.pending)

-- What a reading leaves and shows: the requesters of the window are no longer pending, and the turn goes on.
abbrev pub IsShown : ℕ → Option ℕ → UnitFaults → UnitFaults → Option Shown → Type 0
IsShown unit None u v shown = (v ≡ u) × (shown ≡ None)
IsShown unit (Some w) u v shown =
    (v.turn ≡ (w + 1) % 4) × (v.recorded ≡ u.recorded)
    × (requesters_in v.pending ≡ filter (λ s. not (is_in_window w s)) (requesters_in u.pending))
    × (shown ≡ Some (record { unit = unit; window = w; bits = window_bits (requesters_in u.pending) w }))
