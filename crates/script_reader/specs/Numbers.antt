-- The number that a word writes.
use Rattle.std.specs.Prelude.{ℕ, ◌+◌, ◌*◌, ◌^◌, ◌==◌, ◌&&◌, nat_le, nat_lt, Bool, if◌then◌else◌, List, [], ◌∷◌, length, None, Some, Ok, Err, drop, slice_index}
use Rattle.std.specs.declared.option.Option.{Option}
use Rattle.std.specs.declared.result.Result.{Result}
use Rattle.std.specs.Char.{digit_value}
use Rattle.std.specs.Option.{option_and_then}
use Rattle.script_reader.specs.Codes.{◌>>=◌, not_a_number, out_of_range}

-- digits of either case
unfoldable pub digit_of : ℕ → ℕ → Option ℕ
digit_of base b = if nat_lt (digit_value b) base then Some (digit_value b) else None

-- the number so far, and then digits
abbrev pub numeral_after : ℕ → ℕ → List ℕ → Option ℕ
numeral_after base n [] = Some n
numeral_after base n (b ∷ bs) = option_and_then (λ d. numeral_after base (n * base + d) bs) (digit_of base b)

-- from 1 to `most` digits in a base
abbrev pub numeral_of : ℕ → ℕ → List ℕ → Option ℕ
numeral_of base most ds = if nat_le 1 (length ds) && nat_le (length ds) most then numeral_after base 0 ds else None

-- a number below a limit
abbrev pub below : ℕ → Option ℕ → Option ℕ
below limit None = None
below limit (Some n) = if nat_lt n limit then Some n else None

-- 0x stands first
abbrev pub begins_hex : List ℕ → Bool
begins_hex word = nat_le 2 (length word) && (slice_index word 0 == 48 && slice_index word 1 == 120)

-- 1 to 20 decimal digits, or 0x and 1 to 16 hexadecimal ones
unfoldable pub number_of : List ℕ → Option ℕ
number_of word = if begins_hex word then numeral_of 16 16 (drop 2 word) else numeral_of 10 20 word

abbrev pub fitting : Option ℕ → Result ℕ ℕ
fitting None = Err not_a_number
fitting (Some n) = if nat_lt n (2 ^ 64) then Ok n else Err out_of_range

-- a number of 64 bits
unfoldable pub number_at : List ℕ → Result ℕ ℕ
number_at word = fitting (number_of word)

-- a number from `low` to `high`
unfoldable pub ranged : ℕ → ℕ → List ℕ → Result ℕ ℕ
ranged low high word = number_at word >>= λ n. if nat_le low n && nat_le n high then Ok n else Err out_of_range

-- the number that 64 bits hold, where none stands for any greater one
abbrev pub held : Option ℕ → ℕ
held None = 2 ^ 64
held (Some n) = n
