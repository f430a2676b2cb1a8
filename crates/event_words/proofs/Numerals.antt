-- The text of a number ends where a byte follows that is no digit.
use Rattle.std.proofs.Common.{◌≡◌, ℕ, zero, suc, ◌/◌, ◌%◌, ◌^◌, ◌<◌, ◌≤◌, Bool, true, false, cond, ◌==◌, List, [], ◌∷◌, ◌++◌, get_or, drop, decimal, codes, refl, sym, ap, ◌∙◌, arith, append_assoc}
use Rattle.std.specs.Char.{digit_value}
use Rattle.std.specs.Fmt.{digits, digits_onto, digit_glyph}
use Rattle.std.specs.Str.Parse.{AllDigits, IsNumeral, digits_value}
use Rattle.std.proofs.lemmas.Fmt.{digits_is_IsNumeral}
use Rattle.std.proofs.lemmas.Str.{digit_value-digit_char}
use Rattle.event_words.specs.Texts.{hexadecimal}

pub same_first : (x y : ℕ) (xs ys : List ℕ) → x ∷ xs ≡ y ∷ ys → x ≡ y
same_first x y xs ys e = ap (λ l. get_or l 0 0) e

-- ---- digits of any number, however long

cond_numeral : (t : Bool) (a b : List ℕ) → IsNumeral 10 a → IsNumeral 10 b → IsNumeral 10 (cond t a b)
cond_numeral true a b p q = p
cond_numeral false a b p q = q

glyph_digit : (n : ℕ) → digit_value (digit_glyph false (n % 10)) < 10
glyph_digit n = omega (arith, digit_value-digit_char (n % 10) (omega arith))

onto_numeral : (k n : ℕ) (acc : List ℕ) → IsNumeral 10 acc → IsNumeral 10 (digits_onto k 10 false n acc)
onto_numeral zero n acc h = h
onto_numeral (suc k) n acc h =
    let front : IsNumeral 10 (digit_glyph false (n % 10) ∷ acc) = (omega arith, (glyph_digit n, h.1)) in
    cond_numeral (n / 10 == 0) _ _ front (onto_numeral k (n / 10) (digit_glyph false (n % 10) ∷ acc) front)

pub decimal_numeral : (n : ℕ) → IsNumeral 10 (decimal n)
unfolding digits
decimal_numeral n =
    let front : IsNumeral 10 (digit_glyph false (n % 10) ∷ []) = (omega arith, (glyph_digit n, tt)) in
    cond_numeral (n / 10 == 0) _ _ front (onto_numeral 63 (n / 10) (digit_glyph false (n % 10) ∷ []) front)

-- the first byte of a text is no decimal digit
abbrev pub BeginsOtherwise : List ℕ → Type 0
BeginsOtherwise text = 10 ≤ digit_value (get_or text 0 0)

pub number_first : (n : ℕ) (r : List ℕ) → BeginsOtherwise (decimal n ++ r) → ⊥
number_first n r h = by (decimal n) (decimal_numeral n) h
  where
    by : (ds : List ℕ) → IsNumeral 10 ds → BeginsOtherwise (ds ++ r) → ⊥
    by [] d b = omega (arith, d.0)
    by (c ∷ cs) d b = omega (arith, d.1.0, b)

-- ---- where digits end

-- Two runs of digits, each before a byte that is none.
pub run_end : (base : ℕ) (ds es : List ℕ) (x y : ℕ) (xs ys : List ℕ) → AllDigits base ds → AllDigits base es → base ≤ digit_value x → base ≤ digit_value y
    → ds ++ (x ∷ xs) ≡ es ++ (y ∷ ys) → (ds ≡ es) × (x ∷ xs ≡ y ∷ ys)
run_end base [] [] x y xs ys p q l m e = (refl, e)
run_end base [] (c ∷ es) x y xs ys p q l m e =
    let same : digit_value x ≡ digit_value c = ap digit_value (same_first x c _ _ e) in
    absurd (omega (arith, same, q.0, l))
run_end base (c ∷ ds) [] x y xs ys p q l m e =
    let same : digit_value c ≡ digit_value y = ap digit_value (same_first c y _ _ e) in
    absurd (omega (arith, same, p.0, m))
run_end base (c ∷ ds) (d ∷ es) x y xs ys p q l m e =
    let rest = run_end base ds es x y xs ys p.1 q.1 l m (ap (drop 1) e) in
    let first = same_first c d _ _ e in
    (ap (λ b. b ∷ ds) first ∙ ap (λ bs. d ∷ bs) rest.0, rest.1)

-- ---- fields, each before a space

-- Where the two texts, each with a space and some rest after it, give one whole, P holds and the rests
-- are equal.
abbrev pub Tells : List ℕ → List ℕ → Type 0 → Type 0
Tells p q P = (r s : List ℕ) → p ++ (codes " " ++ r) ≡ q ++ (codes " " ++ s) → P × (r ≡ s)

-- a field after another
pub both : (p q p' q' : List ℕ) {P Q : Type 0} → Tells p q P → Tells p' q' Q → Tells (p ++ (codes " " ++ p')) (q ++ (codes " " ++ q')) (P × Q)
both p q p' q' first second r s e =
    let one = first (p' ++ (codes " " ++ r)) (q' ++ (codes " " ++ s)) (sym (append_assoc p (codes " " ++ p') (codes " " ++ r)) ∙ e ∙ append_assoc q (codes " " ++ q') (codes " " ++ s)) in
    let two = second r s one.1 in
    ((one.0, two.0), two.1)

digits_tell : (base : ℕ) → 2 ≤ base → base ≤ 16 → (m n : ℕ) → m < base ^ 64 → n < base ^ 64 → Tells (digits base false m) (digits base false n) (m ≡ n)
digits_tell base low high m n p q r s e =
    let a = digits_is_IsNumeral base false low high m p in
    let b = digits_is_IsNumeral base false low high n q in
    let ends = run_end base (digits base false m) (digits base false n) 32 32 r s a.0.1 b.0.1 (omega arith) (omega arith) e in
    (sym a.1 ∙ ap (digits_value base) ends.0 ∙ b.1, ap (drop 1) ends.1)

pub decimal_tells : (m n : ℕ) → m < 2 ^ 64 → n < 2 ^ 64 → Tells (decimal m) (decimal n) (m ≡ n)
decimal_tells m n p q = digits_tell 10 (omega arith) (omega arith) m n (omega arith) (omega arith)

pub hexadecimal_tells : (m n : ℕ) → m < 2 ^ 64 → n < 2 ^ 64 → Tells (hexadecimal m) (hexadecimal n) (m ≡ n)
hexadecimal_tells m n p q r s e = digits_tell 16 (omega arith) (omega arith) m n (omega arith) (omega arith) r s (ap (drop 2) e)
