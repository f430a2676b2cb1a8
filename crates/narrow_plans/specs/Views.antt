-- The view of a requester: what the tables say about it, entry by entry. Of an entry it has whether that is
-- a priority entry, its first byte, the byte past its last, and whether it grants a read, a write and a fetch.
use Rattle.std.specs.Prelude.{ℕ, ◌+◌, ◌*◌, ◌^◌, ◌/◌, ◌==◌, ◌&&◌, nat_lt, Bool, true, false, List, [], ◌∷◌, Option, Some, None, if◌then◌else◌, filter_map, option_map}
use Rattle.std.specs.Bool.{beq}
use Rattle.std.specs.Int.{trailing_ones, w64}
use Rattle.event_words.specs.declared.access.Kind.TheVariants.{Read, Write, Fetch}
use Rattle.event_words.specs.Registers.{Registers}
use Rattle.entry_ranges.specs.declared.ByteRange.{ByteRange}
use Rattle.event_words.specs.declared.address_mode.AddressMode.{AddressMode}
use Rattle.event_words.specs.declared.address_mode.AddressMode.TheVariants.{Off, Tor, Na4, Napot}
use Rattle.event_words.specs.Entries.{word_address, mode_of, bottom_of}
use Rattle.event_words.specs.Decisions.{is_entry_of, entry_grants, prio_count, entries}
pub use Rattle.narrow_plans.specs.declared.views.EntryView.{EntryView}

-- ---- the bytes of an entry as a range

abbrev pub range : ℕ → ℕ → ByteRange
range from to = record { from = from; to = to }

-- up to a top, where that is above the bottom
abbrev pub range_up_to : ℕ → ℕ → Option ByteRange
range_up_to bottom top = if nat_lt bottom top then Some (range bottom top) else None

-- the aligned block that has a byte
abbrev pub block_around : ℕ → ℕ → ByteRange
block_around size x = range (x / size * size) (x / size * size + size)

abbrev pub range_by_mode : Registers → ℕ → AddressMode → Option ByteRange
range_by_mode r j Off = None
range_by_mode r j Tor = range_up_to (bottom_of r j) (4 * word_address r j)
range_by_mode r j Na4 = Some (range (4 * word_address r j) (4 * word_address r j + 4))
range_by_mode r j Napot =
    Some (block_around (2 ^ (trailing_ones w64 (word_address r j) + 3)) (4 * word_address r j))

-- The first byte of entry j and the byte past its last, where it has some byte.
abbrev pub entry_range : Registers → ℕ → Option ByteRange
entry_range r j = range_by_mode r j (mode_of r j)

-- ---- views

abbrev pub entry_view : Registers → ℕ → ℕ → ByteRange → EntryView
entry_view r s j bytes = record {
  priority = nat_lt j (prio_count r);
  from = bytes.from;
  to = bytes.to;
  read = entry_grants r s Read j;
  write = entry_grants r s Write j;
  fetch = entry_grants r s Fetch j;
}

-- an entry of the requester that has some byte
abbrev pub seen_entry : Registers → ℕ → ℕ → Option EntryView
seen_entry r s j = if is_entry_of r s j then option_map (entry_view r s j) (entry_range r j) else None

-- The view of requester s: its entries that have some byte, in ascending order.
unfoldable pub view_of : Registers → ℕ → List EntryView
view_of r s = filter_map (seen_entry r s) (entries r)

-- ---- equal views

abbrev pub same_entry : EntryView → EntryView → Bool
same_entry a b =
    beq a.priority b.priority
    && ((a.from == b.from) && ((a.to == b.to)
    && (beq a.read b.read && (beq a.write b.write && beq a.fetch b.fetch))))

abbrev pub same_view : List EntryView → List EntryView → Bool
same_view [] [] = true
same_view [] (b ∷ bs) = false
same_view (a ∷ more) [] = false
same_view (a ∷ more) (b ∷ bs) = same_entry a b && same_view more bs
