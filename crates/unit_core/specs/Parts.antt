-- What the parts of one unit do: its registers, its stall state and its queue, without the words
-- of open submissions.
use Rattle.std.specs.Prelude.{◌≡◌, ℕ, ◌+◌, ◌*◌, ◌^◌, ◌≤◌, ◌==◌, ◌&&◌, ◌||◌, nat_lt, Bool, true, false, not, List, [], ◌∷◌, ◌++◌, if◌then◌else◌, filter, count_by, length, unwrap_or}
use Rattle.std.specs.List.{AllByRecursion}
use Rattle.event_words.specs.declared.access.Access.{Access}
use Rattle.event_words.specs.declared.reply.Denial.{Denial}
use Rattle.event_words.specs.declared.reply.Decision.{Decision}
use Rattle.event_words.specs.declared.reply.Decision.TheVariants as decisions
use Rattle.event_words.specs.declared.reply.Verdict.{Verdict}
use Rattle.event_words.specs.declared.reply.Verdict.TheVariants as verdicts
use Rattle.event_words.specs.declared.reply.Reply.{Reply}
use Rattle.event_words.specs.declared.reply.Reply.TheVariants as replies
use Rattle.event_words.specs.declared.register.Register.TheVariants.{Mdstall, Rridscp, ErrCfg, ErrInfo}
use Rattle.event_words.specs.Registers.{written, index_of, word_at, has_bit, count_of_bool}
use Rattle.event_words.specs.Guards.{guarded_bits, reg}
use Rattle.event_words.specs.Denials.{denial, recorded}
use Rattle.event_words.specs.Stalls.{flag_of, flags_after}
use Rattle.stall_queue.specs.declared.QueuedSubmission.{QueuedSubmission}
use Rattle.stall_queue.specs.Queues.{Queue, is_of}
use Rattle.stall_control.specs.Counts.{Stalls, count_in, more_at, less_at, is_busy_with}
use Rattle.unit_core.specs.declared.parts.IopmpUnit.{IopmpUnit}
use Rattle.unit_core.specs.Units.{stall_code}

-- What one unit's registers, stall state and queue do, without the words of the open submissions.

abbrev pub part_read : IopmpUnit → ℕ → ℕ
part_read x index =
    if index == index_of Mdstall then word_at x.regs index + count_of_bool (is_busy_with x.stall.flags x.stall.counts)
    else (if index == index_of Rridscp then word_at x.regs index + stall_code x.regs x.stall.flags (word_at x.regs index) * 2 ^ 30
    else word_at x.regs index)

-- the requester of a queued submission is stalled
abbrev pub IsHeld : List Bool → QueuedSubmission → Type 0
IsHeld flags w = flag_of flags w.rrid ≡ true

-- a write to this index may change flags
abbrev pub changes_flags : ℕ → Bool
changes_flags index = (index == index_of Mdstall) || (index == index_of Rridscp)

-- what a release of the requesters below k leaves in the queue
abbrev pub stays_until : List Bool → ℕ → QueuedSubmission → Bool
stays_until flags k w = flag_of flags w.rrid || not (nat_lt w.rrid k)

abbrev pub is_released : List Bool → ℕ → ℕ → Bool
is_released flags k s = nat_lt s k && not (flag_of flags s)

abbrev pub moved_for : List Bool → ℕ → List QueuedSubmission → ℕ → ℕ
moved_for flags k queue s = if is_released flags k s then count_by (is_of s) queue else 0

-- The stall state and the queue after a release of the requesters below k.
pub record IsReleased (k : ℕ) (s : Stalls) (q : Queue) (s' : Stalls) (q' : Queue) : Type 0 where
  pub flags : s'.flags ≡ s.flags
  pub len : length s'.counts ≡ length s.counts
  pub counts : (r : ℕ) → count_in s'.counts r ≡ count_in s.counts r + moved_for s.flags k q.items r
  pub items : q'.items ≡ filter (stays_until s.flags k) q.items
  pub size : q'.size ≡ q.size

-- A unit after a register write.
pub record IsWritten (x y : IopmpUnit) (index value : ℕ) : Type 0 where
  pub regs : y.regs ≡ written x.regs index value (guarded_bits x.regs index)
  pub released : IsReleased x.regs.shape.rrids (record { flags = flags_after x.regs x.stall.flags index value; counts = x.stall.counts }) x.queue y.stall y.queue

abbrev pub with_counts : IopmpUnit → List ℕ → IopmpUnit
with_counts x counts = record x { stall = record { flags = x.stall.flags; counts = counts } }

abbrev pub with_queued : IopmpUnit → ℕ → ℕ → IopmpUnit
with_queued x place rrid = record x { queue = record { items = x.queue.items ++ record { place = place; rrid = rrid } ∷ []; size = x.queue.size } }

abbrev pub part_stall_denial : IopmpUnit → Denial
part_stall_denial x = denial x.regs 7 0xFFFF false false

abbrev pub part_submit : ℕ → IopmpUnit → Access → IopmpUnit × Reply
part_submit p x a =
    if not (flag_of x.stall.flags a.rrid) then (with_counts x (more_at x.stall.counts a.rrid), replies.Passed)
    else (if nat_lt (length x.queue.items) x.queue.size then (with_queued x p a.rrid, replies.Queued)
    else (if has_bit (reg x.regs ErrCfg) 3
    then (record x { regs = recorded x.regs a (part_stall_denial x) }, replies.Stalled (part_stall_denial x))
    else (x, replies.Busy)))

-- The error record is taken.
abbrev pub is_recorded : IopmpUnit → Bool
is_recorded x = has_bit (reg x.regs ErrInfo) 0

abbrev pub part_verdict : IopmpUnit → Access → Decision → IopmpUnit × Verdict
part_verdict x a decisions.Allowed =
    (with_counts x (less_at x.stall.counts a.rrid), verdicts.Allowed (unwrap_or x.regs.shape.transl a.rrid))
part_verdict x a (decisions.Denied kind entry mute_irq mute_err) =
    let d = denial x.regs kind entry mute_irq mute_err in
    (record (with_counts x (less_at x.stall.counts a.rrid)) { regs = recorded x.regs a d }, verdicts.Denied d)

-- A unit that can take a register write: whoever is queued is stalled, and all of them have room in flight.
pub record CanWrite (x : IopmpUnit) : Type 0 where
  pub flags : length x.stall.flags ≡ x.regs.shape.rrids
  pub len : length x.stall.counts ≡ x.regs.shape.rrids
  pub room : (s : ℕ) → count_in x.stall.counts s + count_by (is_of s) x.queue.items ≤ 1048576
  pub held : AllByRecursion (IsHeld x.stall.flags) x.queue.items
