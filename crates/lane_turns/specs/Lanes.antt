-- Sets of lanes, and the lane that a word draws from one.
use Rattle.std.specs.Prelude.{ℕ, ◌/◌, ◌%◌, ◌^◌, ◌==◌, ◌-◌, Bool, List, length, filter, slice_get, bit_and, bit_or}
use Rattle.std.specs.declared.option.Option.{Option}
use Rattle.std.specs.List.{range_with_len}
use Rattle.lane_turns.specs.declared.lanes.LaneSet.{LaneSet}

abbrev pub has : LaneSet → ℕ → Bool
has lanes lane = lanes.bits / 2 ^ lane % 2 == 1

abbrev pub with_lane : LaneSet → ℕ → LaneSet
with_lane lanes lane = record { bits = bit_or lanes.bits (2 ^ lane) }

-- 4294967295 has all 32 bits
abbrev pub without_lane : LaneSet → ℕ → LaneSet
without_lane lanes lane = record { bits = bit_and lanes.bits (4294967295 - 2 ^ lane) }

-- the lanes of the set from this one on, up to 16, in ascending order
unfoldable pub members_from : LaneSet → ℕ → List ℕ
members_from lanes first = filter (has lanes) (range_with_len first (17 - first))

abbrev pub members : LaneSet → List ℕ
members lanes = members_from lanes 1

-- each lane of the set is drawn by the words with its remainder
abbrev pub drawn : LaneSet → ℕ → Option ℕ
drawn lanes word = slice_get (members lanes) (word % length (members lanes))
