-- Numbers that are written in digits are read back.
use Rattle.std.proofs.Common.{◌≡◌, ℕ, ◌+◌, ◌*◌, ◌^◌, ◌<◌, ◌≤◌, ◌==◌, ◌&&◌, nat_le, nat_lt, Bool, true, false, if◌then◌else◌, List, [], ◌∷◌, None, Some, Ok, Err, length, drop, refl, ap, ◌∙◌, inl, inr, arith}
use Rattle.std.proofs.lemmas.Bool.{cases_lt, leb-true, and_from, and_parts, and_right}
use Rattle.std.proofs.lemmas.Bool.Decides.{nat_tests}
use Rattle.std.proofs.lemmas.Fmt.{decimal_is_IsNumeral, digits_is_IsNumeral, length-decimal-le}
use Rattle.std.proofs.lemmas.Str.Parse.{digit_from_value}
use Rattle.std.specs.Char.{digit_value}
use Rattle.std.specs.Fmt.{decimal, digits}
use Rattle.std.specs.List.{list_all}
use Rattle.std.specs.Option.{option_and_then}
use Rattle.std.specs.Str.Parse.{AllDigits, digits_value_after}
use Rattle.event_words.specs.Texts.{hexadecimal}
use Rattle.event_words.proofs.HexDigits.{length_hex}
use Rattle.script_reader.specs.Codes.{◌>>=◌, out_of_range}
use Rattle.script_reader.specs.Names.{is_letter_or_digit}
use Rattle.script_reader.specs.Numbers.{digit_of, numeral_after, numeral_of, number_of, number_at, fitting, ranged, begins_hex}
use Rattle.script_reader.proofs.Numerals.{numeral_of_is}

-- a byte of a word
abbrev pub is_solid : ℕ → Bool
is_solid b = nat_le 33 b && nat_le b 126

pub record IsWord (w : List ℕ) : Type 0 where
  pub some : 1 ≤ length w
  pub solid : list_all is_solid w ≡ true

-- a word that stands in the text as it is here
pub fixed : (w : List ℕ) → (nat_le 1 (length w) && list_all is_solid w) ≡ true → IsWord w
fixed w e = record { some = leb-true 1 (length w) (and_parts (nat_le 1 (length w)) _ e).0; solid = (and_parts (nat_le 1 (length w)) _ e).1 }

-- ---- tests

pub is_less : (a b : ℕ) → a < b → nat_lt a b ≡ true
is_less a b h = grind (arith, nat_tests)

pub is_at_most : (a b : ℕ) → a ≤ b → nat_le a b ≡ true
is_at_most a b h = grind (arith, nat_tests)

pub differs : (a b : ℕ) → (a ≡ b → ⊥) → (a == b) ≡ false
differs a b h = grind (arith, nat_tests)

-- ---- digits

no_low_digit : (c : ℕ) → c < 48 → digit_value c ≡ 36
no_low_digit c h = grind (arith, nat_tests)

no_high_digit : (c : ℕ) → 123 ≤ c → digit_value c ≡ 36
no_high_digit c h = grind (arith, nat_tests)

solid_between : (c : ℕ) → 48 ≤ c → c < 123 → is_solid c ≡ true
solid_between c low high = and_from _ _ (is_at_most 33 c (omega arith)) (is_at_most c 126 (omega arith))

solid_digit : (c : ℕ) → digit_value c < 36 → is_solid c ≡ true
solid_digit c h =
    elim (cases_lt c 48) [
      | inl low ↦ absurd (omega (arith, h, no_low_digit c low))
      | inr above ↦ elim (cases_lt c 123) [
        | inl below ↦ solid_between c above below
        | inr high ↦ absurd (omega (arith, h, no_high_digit c high))
      ]
    ]

solid_digits : (base : ℕ) (ds : List ℕ) → base ≤ 36 → AllDigits base ds → list_all is_solid ds ≡ true
solid_digits base [] low h = refl
solid_digits base (c ∷ cs) low h = and_from _ _ (solid_digit c (omega (arith, low, h.0))) (solid_digits base cs low h.1)

named_digit : (c : ℕ) → digit_value c < 10 → is_letter_or_digit c ≡ true
named_digit c h = let range = digit_from_value c h in grind (arith, nat_tests)

pub named_digits : (ds : List ℕ) → AllDigits 10 ds → list_all is_letter_or_digit ds ≡ true
named_digits [] h = refl
named_digits (c ∷ cs) h = and_from _ _ (named_digit c h.0) (named_digits cs h.1)

digit_is : (base c : ℕ) → digit_value c < base → digit_of base c ≡ Some (digit_value c)
unfolding digit_of
digit_is base c h = ap (λ b. if b then Some (digit_value c) else None) (is_less (digit_value c) base h)

numeral_is : (base n : ℕ) (ds : List ℕ) → AllDigits base ds → numeral_after base n ds ≡ Some (digits_value_after base n ds)
numeral_is base n [] h = refl
numeral_is base n (c ∷ cs) h = ap (option_and_then (λ d. numeral_after base (n * base + d) cs)) (digit_is base c h.0) ∙ numeral_is base (n * base + digit_value c) cs h.1

-- ---- the two ways of writing a number

not_x : (c : ℕ) → digit_value c < 10 → (c == 120) ≡ false
not_x c h = let range = digit_from_value c h in differs c 120 (λ e. omega (arith, e, range))

no_hex : (ds : List ℕ) → AllDigits 10 ds → begins_hex ds ≡ false
no_hex [] h = refl
no_hex (x ∷ []) h = refl
no_hex (x ∷ (y ∷ ys)) h = and_right (nat_le 2 (length (x ∷ (y ∷ ys)))) _ (and_right (x == 48) (y == 120) (not_x y h.1.0))

pub decimal_read : (n : ℕ) → n < 2 ^ 64 → number_of (decimal n) ≡ Some n
unfolding number_of
decimal_read n small =
    let own = decimal_is_IsNumeral n small in
    let short : length (decimal n) ≤ 20 = length-decimal-le 20 n (omega arith) (omega (arith, small)) small in
    ap (λ b. if b then numeral_of 16 16 (drop 2 (decimal n)) else numeral_of 10 20 (decimal n)) (no_hex (decimal n) own.0.1)
    ∙ numeral_of_is 10 20 (decimal n) own.0.0 short ∙ numeral_is 10 0 (decimal n) own.0.1 ∙ ap Some own.1

pub hexadecimal_read : (n : ℕ) → n < 2 ^ 64 → number_of (hexadecimal n) ≡ Some n
unfolding number_of
hexadecimal_read n small =
    let ds = digits 16 false n in
    let own = digits_is_IsNumeral 16 false (omega arith) (omega arith) n (omega (arith, small)) in
    ap (λ b. if b && true then numeral_of 16 16 ds else numeral_of 10 20 (hexadecimal n)) (is_at_most 2 (length (hexadecimal n)) (omega arith))
    ∙ numeral_of_is 16 16 ds own.0.0 (length_hex n small) ∙ numeral_is 16 0 ds own.0.1 ∙ ap Some own.1

-- ---- what a word writes

-- a word that writes a number of 64 bits
pub record Writes (w : List ℕ) (n : ℕ) : Type 0 where
  pub word : IsWord w
  pub number : number_at w ≡ Ok n

fitting_small : (n : ℕ) → n < 2 ^ 64 → fitting (Some n) ≡ Ok n
fitting_small n small = ap (λ b. if b then Ok n else Err out_of_range) (is_less n (2 ^ 64) small)

number_is_at : (w : List ℕ) (n : ℕ) → number_of w ≡ Some n → n < 2 ^ 64 → number_at w ≡ Ok n
unfolding number_at
number_is_at w n e small = ap fitting e ∙ fitting_small n small

pub decimal_writes : (n : ℕ) → n < 2 ^ 64 → Writes (decimal n) n
decimal_writes n small =
    let own = decimal_is_IsNumeral n small in
    record { word = record { some = own.0.0; solid = solid_digits 10 (decimal n) (omega arith) own.0.1 }; number = number_is_at (decimal n) n (decimal_read n small) small }

pub hexadecimal_writes : (n : ℕ) → n < 2 ^ 64 → Writes (hexadecimal n) n
hexadecimal_writes n small =
    let own = digits_is_IsNumeral 16 false (omega arith) (omega arith) n (omega (arith, small)) in
    record { word = record { some = omega arith; solid = solid_digits 16 (digits 16 false n) (omega arith) own.0.1 }; number = number_is_at (hexadecimal n) n (hexadecimal_read n small) small }

pub ranged_is : (low high : ℕ) (w : List ℕ) (n : ℕ) → Writes w n → low ≤ n → n ≤ high → ranged low high w ≡ Ok n
unfolding ranged
ranged_is low high w n writes above below =
    ap (λ r. r >>= λ m. if nat_le low m && nat_le m high then Ok m else Err out_of_range) writes.number
    ∙ ap (λ b. if b then Ok n else Err out_of_range) (and_from _ _ (is_at_most low n above) (is_at_most n high below))
