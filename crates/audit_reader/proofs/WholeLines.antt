-- Lines that have a line feed at their end alone, and texts made of them.
use Rattle.std.proofs.Common.{◌≡◌, ℕ, zero, suc, ◌/◌, ◌%◌, ◌<◌, Bool, true, false, cond, List, [], ◌∷◌, ◌++◌, decimal, codes, refl, sym, ap, ◌∙◌, arith, append_assoc}
use Rattle.std.specs.Prelude.{◌==◌, ◌&&◌, not}
use Rattle.std.specs.Char.{digit_value}
use Rattle.std.specs.Fmt.{digits, digits_onto, digit_glyph}
use Rattle.std.specs.List.{AllByRecursion, list_all, concat}
use Rattle.std.specs.Str.Parse.{AllDigits}
use Rattle.std.proofs.lemmas.Bool.{ne_eqb, and_from}
use Rattle.std.proofs.lemmas.List.Folds.{list_all-append}
use Rattle.std.proofs.lemmas.Str.{digit_value-digit_char}
use Rattle.event_words.specs.Texts.{hexadecimal}
use Rattle.event_words.proofs.Numerals.{decimal_numeral}
use Rattle.script_reader.specs.ReportTexts.{fed_lines, with_byte}
use Rattle.script_reader.proofs.FedLines.{concat_fed}

-- ---- texts without a line feed

abbrev pub is_no_feed : ℕ → Bool
is_no_feed b = not (b == 10)

pub record IsPlain (text : List ℕ) : Type 0 where
  pub all : list_all is_no_feed text ≡ true

pub given : (text : List ℕ) → list_all is_no_feed text ≡ true → IsPlain text
given text h = record { all = h }

pub plain_both : (a b : List ℕ) → IsPlain a → IsPlain b → IsPlain (a ++ b)
plain_both a b p q = given (a ++ b) (list_all-append is_no_feed a b ∙ and_from _ _ p.all q.all)

pub plain_choice : (t : Bool) (a b : List ℕ) → IsPlain a → IsPlain b → IsPlain (cond t a b)
plain_choice true a b p q = p
plain_choice false a b p q = q

-- a digit's byte is no line feed
digit_plain : (c : ℕ) → digit_value c < 16 → is_no_feed c ≡ true
digit_plain c h = ap not (ne_eqb c 10 (λ e. let same : digit_value c ≡ 36 = ap digit_value e in omega (arith, same, h)))

digits_plain : (ds : List ℕ) → AllDigits 16 ds → list_all is_no_feed ds ≡ true
digits_plain [] h = refl
digits_plain (c ∷ cs) h = and_from _ _ (digit_plain c h.0) (digits_plain cs h.1)

fewer : (ds : List ℕ) → AllDigits 10 ds → AllDigits 16 ds
fewer [] h = tt
fewer (c ∷ cs) h = (let l = h.0 in omega (arith, l), fewer cs h.1)

pub decimal_plain : (n : ℕ) → IsPlain (decimal n)
decimal_plain n = given (decimal n) (digits_plain (decimal n) (fewer (decimal n) (decimal_numeral n).1))

glyph_digit : (n : ℕ) → digit_value (digit_glyph false (n % 16)) < 16
glyph_digit n = omega (arith, digit_value-digit_char (n % 16) (omega arith))

-- the last digit stands alone, or more come before it
choose : (t : Bool) (front : List ℕ) (more : List ℕ) → AllDigits 16 front → AllDigits 16 more → AllDigits 16 (cond t front more)
choose true front more p q = p
choose false front more p q = q

onto_numeral : (k n : ℕ) (acc : List ℕ) → AllDigits 16 acc → AllDigits 16 (digits_onto k 16 false n acc)
onto_numeral zero n acc h = h
onto_numeral (suc k) n acc h =
    let front : AllDigits 16 (digit_glyph false (n % 16) ∷ acc) = (glyph_digit n, h) in
    choose (n / 16 == 0) (digit_glyph false (n % 16) ∷ acc) (digits_onto k 16 false (n / 16) (digit_glyph false (n % 16) ∷ acc)) front
    (onto_numeral k (n / 16) (digit_glyph false (n % 16) ∷ acc) front)

hexadecimal_numeral : (n : ℕ) → AllDigits 16 (digits 16 false n)
unfolding digits
hexadecimal_numeral n =
    let front : AllDigits 16 (digit_glyph false (n % 16) ∷ []) = (glyph_digit n, tt) in
    choose (n / 16 == 0) (digit_glyph false (n % 16) ∷ []) (digits_onto 63 16 false (n / 16) (digit_glyph false (n % 16) ∷ [])) front
    (onto_numeral 63 (n / 16) (digit_glyph false (n % 16) ∷ []) front)

pub hexadecimal_plain : (n : ℕ) → IsPlain (hexadecimal n)
hexadecimal_plain n = plain_both (codes "0x") (digits 16 false n) (given _ refl) (given _ (digits_plain _ (hexadecimal_numeral n)))

-- ---- lines

-- The line has one line feed, at its end.
pub record IsLine (line : List ℕ) : Type 0 where
  pub body : List ℕ
  pub plain : IsPlain body
  pub is : line ≡ body ++ 10 ∷ []

pub ends : IsLine (codes "\n")
ends = record { body = []; plain = given _ refl; is = refl }

pub before : (text line : List ℕ) → IsPlain text → IsLine line → IsLine (text ++ line)
before text line p l = record {
  body = text ++ l.body;
  plain = plain_both text l.body p l.plain;
  is = ap (λ bs. text ++ bs) l.is ∙ sym (append_assoc text l.body (10 ∷ []));
}

-- ---- the lines of a text

fed_body : (body r : List ℕ) → list_all is_no_feed body ≡ true → fed_lines (body ++ (10 ∷ r)) ≡ (body ++ 10 ∷ []) ∷ fed_lines r
fed_body [] r p = refl
fed_body (b ∷ bs) r p = by (b == 10) (fed_lines (bs ++ (10 ∷ r))) p (λ q. fed_body bs r q)
  where
    by : (t : Bool) (ls : List (List ℕ)) → (not t && list_all is_no_feed bs) ≡ true → (list_all is_no_feed bs ≡ true → ls ≡ (bs ++ 10 ∷ []) ∷ fed_lines r)
        → cond t ((b ∷ []) ∷ ls) (with_byte b ls) ≡ (b ∷ (bs ++ 10 ∷ [])) ∷ fed_lines r
    by true ls q go = absurd (let n : false ≡ true = q in cc)
    by false ls q go = ap (with_byte b) (go q)

pub fed_line : (line r : List ℕ) → IsLine line → fed_lines (line ++ r) ≡ line ∷ fed_lines r
fed_line line r l =
    ap (λ bs. fed_lines (bs ++ r)) l.is ∙ ap fed_lines (append_assoc l.body (10 ∷ []) r) ∙ fed_body l.body r l.plain.all ∙ ap (λ bs. bs ∷ fed_lines r) (sym l.is)

pub fed_concat : (lines : List (List ℕ)) → AllByRecursion IsLine lines → fed_lines (concat lines) ≡ lines
fed_concat [] h = refl
fed_concat (line ∷ lines) h = fed_line line (concat lines) h.0 ∙ ap (λ ls. line ∷ ls) (fed_concat lines h.1)

-- a text begins with its first line
pub begins_with : (text line : List ℕ) (rest : List (List ℕ)) → fed_lines text ≡ line ∷ rest → text ≡ line ++ concat rest
begins_with text line rest e = sym (concat_fed text) ∙ ap concat e

-- a text that begins with a line has it as its first
pub first_line : (text line r : List ℕ) → IsLine line → text ≡ line ++ r → fed_lines text ≡ line ∷ fed_lines r
first_line text line r l e = ap fed_lines e ∙ fed_line line r l

-- ---- a line that is made and compared

-- a line came
pub line_taken : (text made rest line : List ℕ) → made ≡ line → IsLine line → text ≡ made ++ rest → fed_lines text ≡ line ∷ fed_lines rest
line_taken text made rest line m l e = first_line text line rest l (e ∙ ap (λ bs. bs ++ rest) m)

-- where a line is the first, the text begins with it
pub line_begins : (text made line : List ℕ) (rest : List (List ℕ)) → made ≡ line → fed_lines text ≡ line ∷ rest → text ≡ made ++ concat rest
line_begins text made line rest m e = begins_with text line rest e ∙ ap (λ bs. bs ++ concat rest) (sym m)
