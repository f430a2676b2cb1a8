-- The number that a text begins with.
use Rattle.std.proofs.Common.{◌≡◌, ℕ, ◌+◌, ◌*◌, ◌^◌, ◌<◌, ◌≤◌, List, [], ◌∷◌, ◌++◌, Option, Some, None, length, drop, get_or, decimal, codes, refl, sym, ap, ◌∙◌, arith, drop-cons, add-one}
use Rattle.std.specs.Prelude.{if◌then◌else◌}
use Rattle.std.proofs.lemmas.Bool.{le-leb}
use Rattle.std.proofs.lemmas.Bool.Decides.{nat_tests}
use Rattle.std.specs.Char.{digit_value}
use Rattle.std.specs.Str.Parse.{AllDigits, digits_value_after}
use Rattle.std.proofs.lemmas.List.{at_drop_all}
use Rattle.std.proofs.lemmas.Fmt.{decimal_is_IsNumeral}
use Rattle.std.proofs.lemmas.Str.{digit_value_digit}
use Rattle.std.proofs.lemmas.Str.Parse.{digit_from_value}
use Rattle.audit_reader.specs.Digits.{digit_at, with_digit, leading, up_to}
use Rattle.audit_reader.proofs.Fronts.{digit_of}

pub grows : (number : ℕ) (bs : List ℕ) → number ≤ leading number bs
grows number [] = omega arith
grows number (b ∷ bs) = by (digit_at b) (λ m. grows m bs)
  where
    by : (o : Option ℕ) → ((m : ℕ) → m ≤ leading m bs) → number ≤ with_digit o number (λ m. leading m bs)
    by None go = omega arith
    by (Some d) go = let h = go (number * 10 + d) in omega (arith, h)

-- one byte more
pub more : (number i : ℕ) (text : List ℕ) → i < length text → leading number (drop i text) ≡ with_digit (digit_at (get_or text i 0)) number (λ m. leading m (drop (i + 1) text))
more number i text h = ap (leading number) (drop-cons text i 0 h ∙ ap (λ n. get_or text i 0 ∷ drop n text) (sym (add-one i)))

pub at_end : (number i : ℕ) (text : List ℕ) → length text ≤ i → leading number (drop i text) ≡ number
at_end number i text h = at_drop_all (leading number) text i h

digit_here : (c : ℕ) → digit_value c < 10 → digit_at c ≡ Some (digit_value c)
digit_here c h = let same = digit_value_digit c (digit_from_value c h) in digit_of c (digit_value c) h (omega (arith, same))

of_digits : (number : ℕ) (ds rest : List ℕ) → AllDigits 10 ds → leading number (ds ++ (10 ∷ rest)) ≡ digits_value_after 10 number ds
of_digits number [] rest h = refl
of_digits number (c ∷ cs) rest h = ap (λ o. with_digit o number (λ m. leading m (cs ++ (10 ∷ rest)))) (digit_here c h.0) ∙ of_digits (number * 10 + digit_value c) cs rest h.1

-- the number of a text that begins with a decimal number and a line feed
pub of_decimal : (n : ℕ) (rest text : List ℕ) → n < 2 ^ 64 → text ≡ decimal n ++ (codes "\n" ++ rest) → leading 0 text ≡ n
of_decimal n rest text l e = let d = decimal_is_IsNumeral n l in ap (leading 0) e ∙ of_digits 0 (decimal n) rest d.0.1 ∙ d.1

-- where a number is at most `most`, and where it isn't
pub up_to_some : (most n : ℕ) → n ≤ most → up_to most n ≡ Some n
up_to_some most n h = ap (λ t. if t then Some n else None) (le-leb n most h)

pub up_to_none : (most n : ℕ) → most < n → up_to most n ≡ None
up_to_none most n h = grind (arith, nat_tests)

-- a text that begins with a decimal number and a line feed gives the number
pub number_found : (most n : ℕ) (rest text : List ℕ) (r : Option ℕ) → most ≤ 1048576 → n ≤ most → r ≡ up_to most (leading 0 text) → text ≡ decimal n ++ (codes "\n" ++ rest) → r ≡ Some n
number_found most n rest text r m l d e = d ∙ ap (up_to most) (of_decimal n rest text (omega (arith, l, m)) e) ∙ up_to_some most n l
