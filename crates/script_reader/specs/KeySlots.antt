-- The slots of keys. Keys are distinct numbers that stand in a list in the order in which they were added, so that a
-- key's place in the list is its slot.
use Rattle.std.specs.Prelude.{◌≡◌, ℕ, ◌-◌, ◌^◌, ◌<◌, ◌≤◌, ◌==◌, ◌||◌, nat_eq, nat_lt, Bool, List, None, length, position, take, slice_index}
use Rattle.std.specs.declared.option.Option.{Option}
use Rattle.std.specs.Ordering.{nat_cmp}
use Rattle.std.specs.BTreeMap.{BTreeMap, get}

abbrev pub key_slot : List ℕ → ℕ → Option ℕ
key_slot keys key = position (nat_eq key) keys

-- where a key of 64 bits stands in a map: the greater it is, the lower
abbrev pub rank_of : ℕ → ℕ
rank_of key = 2 ^ 64 - 1 - key

-- each key is below those after it
pub record IsRising (keys : List ℕ) : Type 0 where
  pub at : (i j : ℕ) → i < j → j < length keys → slice_index keys i < slice_index keys j

-- there is no last key, or it is below this one
abbrev pub is_above : List ℕ → ℕ → Bool
is_above keys key = length keys == 0 || nat_lt (slice_index keys (length keys - 1)) key

-- what holds of keys of which the first ones rise, and of a map from the ranks of the others to their slots
pub record AreIndexed (keys : List ℕ) (rising : ℕ) (others : BTreeMap ℕ ℕ) : Type 0 where
  pub few : length keys ≤ 2 ^ 32
  pub within : rising ≤ length keys
  pub rise : IsRising (take rising keys)
  pub mapped : (key : ℕ) → key < 2 ^ 64 → key_slot (take rising keys) key ≡ None → get nat_cmp others (rank_of key) ≡ key_slot keys key
