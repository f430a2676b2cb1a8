-- Which entries are marked in which rows of addresses.
use Rattle.std.specs.Prelude.{◌≡◌, ℕ, ◌+◌, ◌*◌, ◌/◌, ◌%◌, ◌<◌, ◌≤◌, true, List, length, Option, slice_index_or}
use Rattle.std.specs.Int.{bit_at}
use Rattle.entry_ranges.specs.declared.ByteRange.{ByteRange}
use Rattle.decoded_tables.specs.Standing.{range_at, is_in}

-- The row of a byte. A row has every 64th block of 2^16 addresses.
abbrev pub row_of : ℕ → ℕ
row_of x = x / 65536 % 64

-- Entry j is marked in a row: 64 entries share the word of each of 64 rows.
abbrev pub IsMarked : List ℕ → ℕ → ℕ → Type 0
IsMarked marks j row = bit_at (slice_index_or marks (j / 64 * 64 + row) 0) (j % 64) ≡ 1

-- Each entry is marked in the rows of its bytes. It may be marked in others.
pub record MarksFor (marks : List ℕ) (ranges : List (Option ByteRange)) : Type 0 where
  pub room : (j : ℕ) → j < length ranges → j / 64 * 64 + 64 ≤ length marks
  pub each : (j x : ℕ) → j < length ranges → is_in (range_at ranges j) x ≡ true → IsMarked marks j (row_of x)
