-- What a walk over entries has seen so far, and which writes leave a view as it is.
use Rattle.std.specs.Prelude.{◌≡◌, ℕ, ◌≤◌, ◌&&◌, nat_lt, Bool, List, filter_map}
use Rattle.std.specs.List.{range_with_len}
use Rattle.event_words.specs.declared.register.Register.TheVariants.{EntryAddr, EntryCfg}
use Rattle.event_words.specs.Registers.{Registers, written, index_of}
use Rattle.event_words.specs.Decisions.{is_entry_of}
use Rattle.narrow_plans.specs.Views.{EntryView, seen_entry, view_of}

-- of the view of requester s, what the entries below n give
abbrev pub seen_below : Registers → ℕ → ℕ → List EntryView
seen_below r s n = filter_map (seen_entry r s) (range_with_len 0 n)

-- The unit has entry j, and it is the requester's.
abbrev pub is_own : Registers → ℕ → ℕ → Bool
is_own r s j = nat_lt j r.shape.entries && is_entry_of r s j

-- An index is that of one of the registers of entry i.
abbrev pub IsEntryPart : ℕ → ℕ → Type 0
IsEntryPart i index = (index_of (EntryAddr i) ≤ index) × (index ≤ index_of (EntryCfg i))

-- Where registers come of a write at an index, the requester's view was the same before it.
abbrev pub LeavesView : Registers → ℕ → ℕ → Type 0
LeavesView r index s = (before : Registers) (value keep : ℕ) → r ≡ written before index value keep → view_of before s ≡ view_of r s
