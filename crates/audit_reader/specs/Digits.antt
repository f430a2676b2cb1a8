-- Numbers in decimal digits.
use Rattle.std.specs.Prelude.{ℕ, ◌+◌, ◌*◌, ◌-◌, ◌&&◌, nat_le, if◌then◌else◌, List, [], ◌∷◌, Option, None, Some}

-- of a decimal digit, its number
abbrev pub digit_at : ℕ → Option ℕ
digit_at b = if nat_le 48 b && nat_le b 57 then Some (b - 48) else None

-- after the number so far, with a digit if one comes
abbrev pub with_digit : Option ℕ → ℕ → (ℕ → ℕ) → ℕ
with_digit None number go = number
with_digit (Some d) number go = go (number * 10 + d)

-- The number that the digits write with which the text begins, when they follow those of a number.
abbrev pub leading : ℕ → List ℕ → ℕ
leading number [] = number
leading number (b ∷ bs) = with_digit (digit_at b) number (λ m. leading m bs)

-- a number, where it is at most `most`
abbrev pub up_to : ℕ → ℕ → Option ℕ
up_to most n = if nat_le n most then Some n else None
