-- The lines of a text, byte by byte, and the parts of an input, line by line.
use Rattle.std.proofs.Common.{◌≡◌, ℕ, ◌+◌, ◌-◌, ◌<◌, not, Bool, true, false, cond, if◌then◌else◌, ◌++◌, List, [], ◌∷◌, Ok, take, drop, get_or, length, codes, take-append-drop, refl, sym, ap, ◌∙◌, eq-eqb, arith}
use Rattle.std.proofs.lemmas.Bool.{not-true, and_parts}
use Rattle.std.specs.Prelude.{◌==◌}
use Rattle.std.specs.List.{concat}
use Rattle.std.proofs.Math.Seq.{take-add, take-length, drop-length}
use Rattle.std.proofs.lemmas.List.{append-nil, take_more, take_rest, drop-drop, drop_more}
use Rattle.std.proofs.lemmas.List.Sums.{passes_at_first}
use Rattle.script_reader.specs.Text.{is_line_feed, line_end, first_line, words_of, without_last_line_feed}
use Rattle.script_reader.specs.UpdateTexts.{is_heading}
use Rattle.script_reader.specs.ReportTexts.{ReportTextOf, fed_lines, with_byte, report_text_from, report_text_at}
use Rattle.script_reader.proofs.Parts.{clear, clear_before, without_append, last_clear, is_ten}

-- lines, of which the first has these bytes before it
abbrev pub onto : List ℕ → List (List ℕ) → List (List ℕ)
onto [] lines = lines
onto (b ∷ bs) lines = with_byte b (onto bs lines)

onto_more : (bs : List ℕ) (b : ℕ) (lines : List (List ℕ)) → onto (bs ++ b ∷ []) lines ≡ onto bs (with_byte b lines)
onto_more [] b lines = refl
onto_more (c ∷ bs) b lines = ap (with_byte c) (onto_more bs b lines)

onto_line : (bs line : List ℕ) (lines : List (List ℕ)) → onto bs (line ∷ lines) ≡ (bs ++ line) ∷ lines
onto_line [] line lines = refl
onto_line (b ∷ bs) line lines = ap (with_byte b) (onto_line bs line lines)

onto_none : (b : ℕ) (bs : List ℕ) → onto (b ∷ bs) [] ≡ (b ∷ bs) ∷ []
onto_none b [] = refl
onto_none b (c ∷ bs) = ap (with_byte b) (onto_none c bs)

other_byte : (b : ℕ) (bs : List ℕ) → is_line_feed b ≡ false → fed_lines (b ∷ bs) ≡ with_byte b (fed_lines bs)
other_byte b bs h = ap (λ t. cond t ((b ∷ []) ∷ fed_lines bs) (with_byte b (fed_lines bs))) h

line_feed : (b : ℕ) (bs : List ℕ) → b ≡ 10 → fed_lines (b ∷ bs) ≡ (b ∷ []) ∷ fed_lines bs
line_feed b bs h = ap (λ t. cond t ((b ∷ []) ∷ fed_lines bs) (with_byte b (fed_lines bs))) (eq-eqb b 10 h)

line_ends : (bytes : List ℕ) (i : ℕ) → i < length bytes → get_or bytes i 0 ≡ 10
    → fed_lines bytes ≡ onto (take i bytes) (fed_lines (drop i bytes)) → fed_lines bytes ≡ take (i + 1) bytes ∷ fed_lines (drop (i + 1) bytes)
line_ends bytes i h n e =
    let b = get_or bytes i 0 in
    e ∙ ap (λ bs. onto (take i bytes) (fed_lines bs)) (drop_more bytes i 0 h) ∙ ap (onto (take i bytes)) (line_feed b (drop (i + 1) bytes) n)
    ∙ onto_line (take i bytes) (b ∷ []) (fed_lines (drop (i + 1) bytes)) ∙ ap (λ bs. bs ∷ fed_lines (drop (i + 1) bytes)) (sym (take_more bytes i 0 h))

whole : (bytes : List ℕ) → 0 < length bytes → onto bytes [] ≡ bytes ∷ []
whole [] h = absurd (omega (arith, h))
whole (b ∷ bs) h = onto_none b bs

-- a text without line feeds is one line
text_ends : (bytes : List ℕ) (i : ℕ) → 0 < length bytes → i ≡ length bytes
    → fed_lines bytes ≡ onto (take i bytes) (fed_lines (drop i bytes)) → fed_lines bytes ≡ take (length bytes) bytes ∷ fed_lines (drop (length bytes) bytes)
text_ends bytes i h same e =
    e ∙ ap (λ n. onto (take n bytes) (fed_lines (drop n bytes))) same
    ∙ ap (λ bs. onto (take (length bytes) bytes) (fed_lines bs)) (drop-length bytes)
    ∙ ap (λ bs. onto bs []) (take-length bytes) ∙ whole bytes h
    ∙ ap (λ bs. bs ∷ []) (sym (take-length bytes))
    ∙ ap (λ bs. take (length bytes) bytes ∷ fed_lines bs) (sym (drop-length bytes))

-- bytes that are no line feeds stand before the first of the other lines
clear_onto : (xs ys : List ℕ) → clear is_line_feed xs ≡ true → fed_lines (xs ++ ys) ≡ onto xs (fed_lines ys)
clear_onto [] ys h = refl
clear_onto (x ∷ xs) ys h = other_byte x (xs ++ ys) (not-true (is_line_feed x) (and_parts (not (is_line_feed x)) _ h).0) ∙ ap (with_byte x) (clear_onto xs ys (and_parts (not (is_line_feed x)) _ h).1)

first_onto : (bytes : List ℕ) → fed_lines bytes ≡ onto (first_line bytes) (fed_lines (drop (line_end bytes) bytes))
first_onto bytes = ap fed_lines (sym (take-append-drop (line_end bytes) bytes)) ∙ clear_onto (first_line bytes) (drop (line_end bytes) bytes) (clear_before is_line_feed bytes)

ten_there : (bytes : List ℕ) → line_end bytes < length bytes → get_or bytes (line_end bytes) 0 ≡ 10
ten_there bytes h = is_ten _ (passes_at_first is_line_feed bytes 0 h)

pub fed_first : (bytes : List ℕ) → line_end bytes < length bytes → fed_lines bytes ≡ take (line_end bytes + 1) bytes ∷ fed_lines (drop (line_end bytes + 1) bytes)
fed_first bytes h = line_ends bytes (line_end bytes) h (ten_there bytes h) (first_onto bytes)

pub fed_last : (bytes : List ℕ) → 0 < length bytes → line_end bytes ≡ length bytes → fed_lines bytes ≡ take (length bytes) bytes ∷ fed_lines (drop (length bytes) bytes)
fed_last bytes h same = text_ends bytes (line_end bytes) h same (first_onto bytes)

pub bare_first : (bytes : List ℕ) → line_end bytes < length bytes → without_last_line_feed (take (line_end bytes + 1) bytes) ≡ first_line bytes
bare_first bytes h =
    ap without_last_line_feed (take_more bytes (line_end bytes) 0 h ∙ ap (λ b. first_line bytes ++ b ∷ []) (ten_there bytes h))
    ∙ without_append (first_line bytes) 10 [] ∙ append-nil (first_line bytes)

pub bare_last : (bytes : List ℕ) → without_last_line_feed (first_line bytes) ≡ first_line bytes
bare_last bytes = by (first_line bytes) (clear_before is_line_feed bytes)
  where
    by : (line : List ℕ) → clear is_line_feed line ≡ true → without_last_line_feed line ≡ line
    by [] h = refl
    by (b ∷ bs) h = last_clear b bs h

-- the lines of a text are the text
pub concat_fed : (bytes : List ℕ) → concat (fed_lines bytes) ≡ bytes
concat_fed [] = refl
concat_fed (b ∷ bs) = by (b == 10) (fed_lines bs) (concat_fed bs)
  where
    by : (t : Bool) (ls : List (List ℕ)) → concat ls ≡ bs → concat (cond t ((b ∷ []) ∷ ls) (with_byte b ls)) ≡ b ∷ bs
    by true ls e = ap (λ cs. b ∷ cs) e
    by false [] e = ap (λ cs. b ∷ cs) e
    by false (l ∷ ls) e = ap (λ cs. b ∷ cs) e

-- ---- the parts of an input, one line on

-- the first line of what is left from a place on
pub line_at : (bytes : List ℕ) (start size : ℕ) → fed_lines (take (length bytes - start) (drop start bytes)) ≡ take size (take (length bytes - start) (drop start bytes)) ∷ fed_lines (drop size (take (length bytes - start) (drop start bytes)))
    → fed_lines (drop start bytes) ≡ take size (drop start bytes) ∷ fed_lines (drop (start + size) bytes)
line_at bytes start size e =
    let rest = take_rest bytes start in
    ap fed_lines (sym rest) ∙ e ∙ ap (λ l. take size l ∷ fed_lines (drop size l)) rest ∙ ap (λ l. take size (drop start bytes) ∷ fed_lines l) (drop-drop size start bytes)

-- what is told of the line as it was read is so of the line at its place
pub heading_told : (bytes : List ℕ) (start size : ℕ) (line : List ℕ) (words : List (List ℕ)) (told b : Bool) → without_last_line_feed (take size (take (length bytes - start) (drop start bytes))) ≡ line
    → words ≡ words_of line → told ≡ is_heading words (codes "report") → told ≡ b → is_heading (words_of (without_last_line_feed (take size (drop start bytes)))) (codes "report") ≡ b
heading_told bytes start size line words told b bare read is answer =
    let whole = sym bare ∙ ap (λ l. without_last_line_feed (take size l)) (take_rest bytes start) in
    ap (λ ws. is_heading ws (codes "report")) (sym (read ∙ ap words_of whole)) ∙ sym is ∙ answer

module _ (bytes : List ℕ) (start size n : ℕ) (parts : report_text_from (take start bytes) n (fed_lines (drop start bytes)) ≡ report_text_at bytes)
    (next : fed_lines (drop start bytes) ≡ take size (drop start bytes) ∷ fed_lines (drop (start + size) bytes)) where
  abbrev line : List ℕ
  line = take size (drop start bytes)

  pub heading_at : is_heading (words_of (without_last_line_feed line)) (codes "report") ≡ true
      → report_text_at bytes ≡ Ok (let t : ReportTextOf = record { script = take start bytes; heading = n; report = drop (start + size) bytes } in t)
  heading_at h =
      let others = fed_lines (drop (start + size) bytes) in
      sym parts ∙ ap (report_text_from (take start bytes) n) next
      ∙ ap (λ t. if t then Ok (let t : ReportTextOf = record { script = take start bytes; heading = n; report = concat others } in t) else report_text_from (take start bytes ++ line) (n + 1) others) h
      ∙ ap (λ bs. Ok (let t : ReportTextOf = record { script = take start bytes; heading = n; report = bs } in t)) (concat_fed (drop (start + size) bytes))

  pub no_heading_at : is_heading (words_of (without_last_line_feed line)) (codes "report") ≡ false
      → report_text_from (take (start + size) bytes) (n + 1) (fed_lines (drop (start + size) bytes)) ≡ report_text_at bytes
  no_heading_at h =
      let others = fed_lines (drop (start + size) bytes) in
      ap (λ bs. report_text_from bs (n + 1) others) (take-add start size bytes)
      ∙ sym (ap (λ t. if t then Ok (let t : ReportTextOf = record { script = take start bytes; heading = n; report = concat others } in t) else report_text_from (take start bytes ++ line) (n + 1) others) h)
      ∙ ap (report_text_from (take start bytes) n) (sym next) ∙ parts
