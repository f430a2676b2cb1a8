-- Names of submissions. A section's names stand in a list in the order of its submissions, so that
-- a name's place in the list is its slot.
use Rattle.std.specs.Prelude.{◌≡◌, ℕ, ◌+◌, ◌-◌, ◌*◌, ◌^◌, ◌≤◌, true, ◌&&◌, ◌||◌, nat_le, Bool, if◌then◌else◌, List, [], ◌∷◌, ◌++◌, length, position, is_some, None, Some, Ok, Err, slice_index, slice_index_or}
use Rattle.std.specs.declared.option.Option.{Option}
use Rattle.std.specs.declared.result.Result.{Result}
use Rattle.std.specs.List.{list_all}
use Rattle.std.specs.Str.{bytes_eq}
use Rattle.script_reader.specs.KeySlots.{key_slot}
use Rattle.script_reader.specs.Codes.{not_a_name, taken_name, unknown_name}

abbrev pub is_letter : ℕ → Bool
is_letter b = nat_le 97 b && nat_le b 122

abbrev pub is_letter_or_digit : ℕ → Bool
is_letter_or_digit b = is_letter b || (nat_le 48 b && nat_le b 57)

-- 1 to 8 lower-case letters and digits, and a letter first
unfoldable pub is_name : List ℕ → Bool
is_name word = (nat_le 1 (length word) && nat_le (length word) 8) && (is_letter (slice_index word 0) && list_all is_letter_or_digit word)

abbrev pub slot_of : List (List ℕ) → List ℕ → Option ℕ
slot_of names word = position (bytes_eq word) names

abbrev pub known : Option ℕ → Result ℕ ℕ
known None = Err unknown_name
known (Some slot) = Ok slot

-- the slot of a name that a submission before has
unfoldable pub slot_at : List (List ℕ) → List ℕ → Result ℕ ℕ
slot_at names word = if is_name word then known (slot_of names word) else Err not_a_name

-- the names and then a new one
unfoldable pub with_name : List (List ℕ) → List ℕ → Result (List (List ℕ)) ℕ
with_name names word =
    if is_name word then (if is_some (slot_of names word) then Err taken_name else Ok (names ++ word ∷ [])) else Err not_a_name

-- ---- names by their numbers

-- a number, and then bytes as its further digits in base 256
abbrev pub key_after : ℕ → List ℕ → ℕ
key_after key [] = key
key_after key (b ∷ bs) = key_after (key * 256 + b) bs

-- the number that bytes write in base 256, the first byte the highest
abbrev pub key_of : List ℕ → ℕ
key_of bs = key_after 0 bs

-- the number of a name
abbrev pub name_key : List ℕ → Option ℕ
name_key word = if is_name word then Some (key_of word) else None

-- what holds of names and of their numbers
pub record AreKeysOf (keys : List ℕ) (names : List (List ℕ)) : Type 0 where
  pub few : length names ≤ 2 ^ 32
  pub count : length keys ≡ length names
  pub named : list_all is_name names ≡ true
  pub all : (name : List ℕ) → is_name name ≡ true → key_slot keys (key_of name) ≡ slot_of names name
  pub last : 1 ≤ length names → slot_of names (slice_index_or names (length names - 1) []) ≡ Some (length names - 1)
