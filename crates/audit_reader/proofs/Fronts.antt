-- The number that a text begins with, before a space.
use Rattle.std.proofs.Common.{◌≡◌, ◌⊎◌, ℕ, false, zero, suc, ◌+◌, ◌<◌, ◌≤◌, ◌++◌, List, [], ◌∷◌, None, Some, length, get_or, decimal, codes, refl, sym, ap, subst, ◌∙◌, arith, inl, inr, append_assoc, ◌/◌, ◌%◌, ◌*◌, ◌-◌, cond}
use Rattle.std.specs.Fmt.{digits, digits_onto, digit_glyph}
use Rattle.std.specs.Prelude.{◌==◌, nat_le, if◌then◌else◌, Option, IfSome}
use Rattle.std.proofs.lemmas.Bool.{le-leb, and_from}
use Rattle.std.proofs.lemmas.Bool.Decides.{nat_tests}
use Rattle.audit_reader.specs.Digits.{digit_at}
use Rattle.audit_reader.specs.LineFronts.{BeginsWith, number_front, event_front}
use Rattle.event_words.specs.declared.record.LoggedEvent.{LoggedEvent}
use Rattle.event_words.specs.Events.{caller_of}
use Rattle.event_words.specs.Texts.{event_text, reply_text}
use Rattle.event_words.specs.ReportLines.{event_line}

glyph_of : (n : ℕ) → n < 10 → digit_glyph false n ≡ 48 + n
glyph_of n h = grind (arith, nat_tests)

-- the last digit of a number, and those before it
last_digit : (tens n : ℕ) → n < 10 → decimal (10 * tens + n) ≡ cond (tens == 0) ((48 + n) ∷ []) (digits_onto 63 10 false tens ((48 + n) ∷ []))
unfolding digits
last_digit tens n h =
    let before : (10 * tens + n) / 10 ≡ tens = omega arith in
    let last : (10 * tens + n) % 10 ≡ n = omega arith in
    ap (λ q. cond (q == 0) (digit_glyph false ((10 * tens + n) % 10) ∷ []) (digits_onto 63 10 false q (digit_glyph false ((10 * tens + n) % 10) ∷ []))) before
    ∙ ap (λ d. cond (tens == 0) (digit_glyph false d ∷ []) (digits_onto 63 10 false tens (digit_glyph false d ∷ []))) last
    ∙ ap (λ b. cond (tens == 0) (b ∷ []) (digits_onto 63 10 false tens (b ∷ []))) (glyph_of n h)

one_digit : (n : ℕ) → n < 10 → decimal n ≡ (48 + n) ∷ []
one_digit n h = let same : n ≡ 10 * 0 + n = omega arith in ap decimal same ∙ last_digit 0 n h

two_digits : (n : ℕ) → n < 7 → decimal (10 + n) ≡ 49 ∷ (48 + n) ∷ []
two_digits n h = last_digit 1 n (omega (arith, h))

-- The text begins with a number of one digit and a space.
pub record BeginsWithOne (n : ℕ) (text : List ℕ) : Type 0 where
  pub small : n < 10
  pub size : 2 ≤ length text
  pub ones : get_or text 0 0 ≡ 48 + n
  pub space : get_or text 1 0 ≡ 32

-- The text begins with 10 and so many, of two digits, and a space.
pub record BeginsWithTwo (n : ℕ) (text : List ℕ) : Type 0 where
  pub small : n < 7
  pub size : 3 ≤ length text
  pub tens : get_or text 0 0 ≡ 49
  pub ones : get_or text 1 0 ≡ 48 + n
  pub space : get_or text 2 0 ≡ 32

one_front : (n : ℕ) (rest : List ℕ) → n < 10 → number_front n ++ rest ≡ (48 + n) ∷ 32 ∷ rest
one_front n rest l = ap (λ ds. (ds ++ codes " ") ++ rest) (one_digit n l)

two_front : (n : ℕ) (rest : List ℕ) → n < 7 → number_front (10 + n) ++ rest ≡ 49 ∷ (48 + n) ∷ 32 ∷ rest
two_front n rest l = ap (λ ds. (ds ++ codes " ") ++ rest) (two_digits n l)

begins : (n : ℕ) (text : List ℕ) → n < 17 → BeginsWith (number_front n) text → BeginsWithOne n text ⊎ ((m : ℕ) × (n ≡ 10 + m) × BeginsWithTwo m text)
begins n text h b = by (n / 10) refl
  where
    small : n < 10 → BeginsWithOne n text
    small l = let t = b.1 ∙ one_front n b.0 l in record {
      small = l;
      size = subst (λ ds. 2 ≤ length ds) (sym t) (omega arith);
      ones = ap (λ ds. get_or ds 0 0) t;
      space = ap (λ ds. get_or ds 1 0) t;
    }

    large : (m : ℕ) → n ≡ 10 + m → BeginsWithTwo m text
    large m q =
        let l : m < 7 = omega (arith, q, h) in
        let t = b.1 ∙ ap (λ k. number_front k ++ b.0) q ∙ two_front m b.0 l in record {
          small = l;
          size = subst (λ ds. 3 ≤ length ds) (sym t) (omega arith);
          tens = ap (λ ds. get_or ds 0 0) t;
          ones = ap (λ ds. get_or ds 1 0) t;
          space = ap (λ ds. get_or ds 2 0) t;
        }

    by : (k : ℕ) → n / 10 ≡ k → BeginsWithOne n text ⊎ ((m : ℕ) × (n ≡ 10 + m) × BeginsWithTwo m text)
    by zero q = inl (small (omega (arith, q)))
    by (suc k) q = let m : n ≡ 10 + (n - 10) = omega (arith, q) in inr (n - 10, m, large (n - 10) m)

one_begins : (n : ℕ) (text : List ℕ) → BeginsWithOne n text → BeginsWith (number_front n) text
one_begins n [] b = absurd (let s = b.size in omega (arith, s))
one_begins n (x ∷ []) b = absurd (let s = b.size in omega (arith, s))
one_begins n (x ∷ y ∷ rest) b = (rest, ap (λ c. c ∷ y ∷ rest) b.ones ∙ ap (λ c. (48 + n) ∷ c ∷ rest) b.space ∙ sym (one_front n rest b.small))

pub two_begins : (n : ℕ) (text : List ℕ) → BeginsWithTwo n text → BeginsWith (number_front (10 + n)) text
two_begins n [] b = absurd (let s = b.size in omega (arith, s))
two_begins n (x ∷ []) b = absurd (let s = b.size in omega (arith, s))
two_begins n (x ∷ y ∷ []) b = absurd (let s = b.size in omega (arith, s))
two_begins n (x ∷ y ∷ z ∷ rest) b =
    (rest, ap (λ c. c ∷ y ∷ z ∷ rest) b.tens ∙ ap (λ c. 49 ∷ c ∷ z ∷ rest) b.ones ∙ ap (λ c. 49 ∷ (48 + n) ∷ c ∷ rest) b.space ∙ sym (two_front n rest b.small))

-- ---- after the place

-- a front of two parts, and what follows the first
pub after_part : (first second front text : List ℕ) → front ≡ first → BeginsWith (first ++ second) text → (after : List ℕ) × (text ≡ front ++ after) × BeginsWith second after
after_part first second front text f b = (second ++ b.0, b.1 ∙ append_assoc first second b.0 ∙ ap (λ ds. ds ++ (second ++ b.0)) (sym f), (b.0, refl))

pub both_parts : (first second front text after : List ℕ) → front ≡ first → text ≡ front ++ after → BeginsWith second after → BeginsWith (first ++ second) text
both_parts first second front text after f t b = (b.0, t ∙ ap (λ ds. ds ++ after) f ∙ ap (λ ds. first ++ ds) b.1 ∙ sym (append_assoc first second b.0))

-- an event's line begins with its place and its caller
pub line_front : (x : LoggedEvent) (place : ℕ) (text rest : List ℕ) → x.place ≡ place → text ≡ event_line x ++ rest → BeginsWith (event_front place (caller_of x.event)) text
line_front x place text rest p l =
    let end : List ℕ = event_text x.event ++ (codes " = " ++ (reply_text x.reply ++ codes "\n")) in
    let caller : List ℕ = decimal (caller_of x.event) ++ (32 ∷ end) in (
      end ++ rest,
      l ∙ ap (λ k. (decimal k ++ (32 ∷ caller)) ++ rest) p
          ∙ append_assoc (decimal place) (32 ∷ caller) rest
          ∙ ap (λ ds. decimal place ++ (32 ∷ ds)) (append_assoc (decimal (caller_of x.event)) (32 ∷ end) rest ∙ sym (append_assoc (decimal (caller_of x.event)) (codes " ") (end ++ rest)))
          ∙ sym (append_assoc (decimal place) (codes " ") (number_front (caller_of x.event) ++ (end ++ rest)))
          ∙ sym (append_assoc (number_front place) (number_front (caller_of x.event)) (end ++ rest)),
    )

-- ---- digits

pub digit_of : (b n : ℕ) → n < 10 → b ≡ 48 + n → digit_at b ≡ Some n
digit_of b n l e =
    ap (λ t. if t then Some (b - 48) else None) (and_from (nat_le 48 b) (nat_le b 57) (le-leb 48 b (omega (arith, e))) (le-leb b 57 (omega (arith, e, l))))
    ∙ ap Some (let m : b - 48 ≡ n = omega (arith, e) in m)

pub digit_is : (b d : ℕ) → digit_at b ≡ Some d → (d < 10) × (b ≡ 48 + d)
digit_is b d e = grind (arith, nat_tests)

-- ---- as an option

pub none_short : (n : ℕ) (text : List ℕ) → n < 17 → BeginsWith (number_front n) text → length text < 2 → ⊥
none_short n text h b s = by (begins n text h b)
  where
    by : BeginsWithOne n text ⊎ ((m : ℕ) × (n ≡ 10 + m) × BeginsWithTwo m text) → ⊥
    by (inl o) = let l = o.size in omega (arith, l, s)
    by (inr t) = let l = t.2.size in omega (arith, l, s)

pub is_one : (n : ℕ) (text : List ℕ) → n < 17 → BeginsWith (number_front n) text → get_or text 1 0 ≡ 32 → BeginsWithOne n text
is_one n text h b s = by (begins n text h b)
  where
    by : BeginsWithOne n text ⊎ ((m : ℕ) × (n ≡ 10 + m) × BeginsWithTwo m text) → BeginsWithOne n text
    by (inl o) = o
    by (inr t) = absurd (let l = t.2.ones in omega (arith, l, s))

pub is_two : (n : ℕ) (text : List ℕ) → n < 17 → BeginsWith (number_front n) text → (get_or text 1 0 ≡ 32 → ⊥) → (m : ℕ) × (n ≡ 10 + m) × BeginsWithTwo m text
is_two n text h b s = by (begins n text h b)
  where
    by : BeginsWithOne n text ⊎ ((m : ℕ) × (n ≡ 10 + m) × BeginsWithTwo m text) → (m : ℕ) × (n ≡ 10 + m) × BeginsWithTwo m text
    by (inl o) = absurd (s o.space)
    by (inr t) = t

pub only_one : (r : Option ℕ) (text : List ℕ) → r ≡ digit_at (get_or text 0 0) → 2 ≤ length text → get_or text 1 0 ≡ 32 → IfSome r (λ n. (n < 17) × BeginsWith (number_front n) text)
only_one None text e l s = tt
only_one (Some d) text e l s = let i = digit_is (get_or text 0 0) d (sym e) in
    (omega (arith, i.0), one_begins d text (record { small = i.0; size = l; ones = i.1; space = s }))

pub if_some : (r : Option ℕ) (P Q : ℕ → Type 0) → ((n : ℕ) → P n → Q n) → IfSome r P → IfSome r Q
if_some None P Q f h = tt
if_some (Some n) P Q f h = f n h
