-- The first line of a text, and the first word of a line.
use Rattle.std.proofs.Common.{◌≡◌, ℕ, zero, suc, ◌+◌, ◌-◌, ◌<◌, ◌≤◌, ◌==◌, ◌&&◌, ◌||◌, not, Bool, true, false, cond, if◌then◌else◌, List, [], ◌∷◌, ◌++◌, None, Some, length, filter, position, take, drop, get_or, slice_index, refl, ap, sym, subst, ◌∙◌, arith, length-append, length-drop}
use Rattle.std.proofs.lemmas.Bool.{not-true, and_parts}
use Rattle.std.proofs.lemmas.Bool.Decides.{nat_tests}
use Rattle.std.proofs.lemmas.List.{append-nil, take_all, length-take-le, drop_more, drop_all, drop-drop, get_or-drop, take_rest}
use Rattle.std.proofs.lemmas.List.Splits.{slice_split-cons_yes, slice_split-cons_no}
use Rattle.std.proofs.lemmas.List.Sums.{split_at_first, passes_at_first}
use Rattle.std.specs.List.{AllByRecursion, list_all, slice_split, onto_first, position_or_len, before_first, after_first}
use Rattle.script_reader.specs.Words.{IsWordTo}
use Rattle.script_reader.specs.Text.{is_line_feed, is_blank, is_plain, is_plain_or_feed, IsPlainLine, has_bytes, without_last_line_feed, lines_of, words_of}

-- no element passes a test
abbrev pub clear : (ℕ → Bool) → List ℕ → Bool
clear p xs = list_all (λ b. not (p b)) xs

-- ---- parts between elements that pass

split_clear : (p : ℕ → Bool) (xs : List ℕ) → clear p xs ≡ true → slice_split p xs ≡ xs ∷ []
split_clear p [] h = refl
split_clear p (x ∷ xs) h =
    slice_split-cons_no p x xs (not-true (p x) (and_parts (not (p x)) (clear p xs) h).0)
    ∙ ap (onto_first x) (split_clear p xs (and_parts (not (p x)) (clear p xs) h).1)

split_at : (p : ℕ → Bool) (xs : List ℕ) (y : ℕ) (ys : List ℕ) → clear p xs ≡ true → p y ≡ true → slice_split p (xs ++ y ∷ ys) ≡ xs ∷ slice_split p ys
split_at p [] y ys h hit = slice_split-cons_yes p y ys hit
split_at p (x ∷ xs) y ys h hit =
    slice_split-cons_no p x (xs ++ y ∷ ys) (not-true (p x) (and_parts (not (p x)) (clear p xs) h).0)
    ∙ ap (onto_first x) (split_at p xs y ys (and_parts (not (p x)) (clear p xs) h).1 hit)

-- before the first that passes none does
pub clear_before : (p : ℕ → Bool) (xs : List ℕ) → clear p (before_first p xs) ≡ true
clear_before p [] = refl
clear_before p (x ∷ xs) = by (clear_before p xs) (p x) refl
  where
    by : clear p (before_first p xs) ≡ true → (b : Bool) → p x ≡ b → clear p (take (cond (not b) (1 + position_or_len p xs) 0) (x ∷ xs)) ≡ true
    by rest true e = refl
    by rest false e =
        let more : 1 + position_or_len p xs ≡ suc (position_or_len p xs) = omega arith in
        ap (λ n. clear p (take n (x ∷ xs))) more ∙ ap (λ b. not b && clear p (before_first p xs)) e ∙ rest

-- ---- lines

without_more : (x : ℕ) (y : ℕ) (ys : List ℕ) → without_last_line_feed (x ∷ (y ∷ ys)) ≡ x ∷ without_last_line_feed (y ∷ ys)
without_more x y ys =
    let long : length (x ∷ (y ∷ ys)) - 1 ≡ suc (length ys) = omega arith in
    let short : length (y ∷ ys) - 1 ≡ length ys = omega arith in
    ap (λ k. if slice_index (x ∷ (y ∷ ys)) k == 10 then take k (x ∷ (y ∷ ys)) else x ∷ (y ∷ ys)) long
    ∙ by (slice_index (y ∷ ys) (length ys) == 10)
    ∙ ap (λ k. x ∷ (if slice_index (y ∷ ys) k == 10 then take k (y ∷ ys) else y ∷ ys)) (sym short)
  where
    by : (b : Bool) → (if b then x ∷ take (length ys) (y ∷ ys) else x ∷ (y ∷ ys)) ≡ x ∷ (if b then take (length ys) (y ∷ ys) else y ∷ ys)
    by true = refl
    by false = refl

pub without_append : (xs : List ℕ) (y : ℕ) (ys : List ℕ) → without_last_line_feed (xs ++ y ∷ ys) ≡ xs ++ without_last_line_feed (y ∷ ys)
without_append [] y ys = refl
without_append (x ∷ []) y ys = without_more x y ys
without_append (x ∷ (z ∷ zs)) y ys = without_more x z (zs ++ y ∷ ys) ∙ ap (λ l. x ∷ l) (without_append (z ∷ zs) y ys)

is_some_number : (n : ℕ) → 1 ≤ n → (n == 0) ≡ false
is_some_number n h = grind (arith, nat_tests)

lines_of_some : (text : List ℕ) → 1 ≤ length text → lines_of text ≡ slice_split is_line_feed (without_last_line_feed text)
lines_of_some [] some = absurd (omega (arith, some))
lines_of_some (x ∷ xs) some = ap (λ b. if b then [] else slice_split is_line_feed (without_last_line_feed (x ∷ xs))) (is_some_number (length (x ∷ xs)) some)

-- a line and its line feed, and then others
pub lines_of_line : (line rest : List ℕ) → clear is_line_feed line ≡ true → lines_of (line ++ 10 ∷ rest) ≡ line ∷ lines_of rest
lines_of_line line [] h =
    lines_of_some (line ++ 10 ∷ []) (omega (arith, length-append line (10 ∷ [])))
    ∙ ap (slice_split is_line_feed) (without_append line 10 [] ∙ append-nil line)
    ∙ split_clear is_line_feed line h
lines_of_line line (y ∷ ys) h =
    lines_of_some (line ++ 10 ∷ (y ∷ ys)) (omega (arith, length-append line (10 ∷ (y ∷ ys))))
    ∙ ap (slice_split is_line_feed) (without_append line 10 (y ∷ ys) ∙ ap (λ l. line ++ l) (without_more 10 y ys))
    ∙ split_at is_line_feed line 10 (without_last_line_feed (y ∷ ys)) h refl
    ∙ ap (λ l. line ∷ l) (sym (lines_of_some (y ∷ ys) (omega arith)))

-- the last byte of a line without line feeds isn't one
pub last_clear : (x : ℕ) (xs : List ℕ) → clear is_line_feed (x ∷ xs) ≡ true → without_last_line_feed (x ∷ xs) ≡ x ∷ xs
last_clear x [] h = by (x == 10) (not-true (x == 10) (and_parts (not (x == 10)) true h).0)
  where
    by : (b : Bool) → b ≡ false → (if b then [] else x ∷ []) ≡ x ∷ []
    by true e = cc
    by false e = refl
last_clear x (y ∷ ys) h = without_more x y ys ∙ ap (λ l. x ∷ l) (last_clear y ys (and_parts (not (x == 10)) (clear is_line_feed (y ∷ ys)) h).1)

lines_of_last : (text : List ℕ) → 1 ≤ length text → clear is_line_feed text ≡ true → lines_of text ≡ text ∷ []
lines_of_last [] some h = absurd (omega (arith, some))
lines_of_last (x ∷ xs) some h = lines_of_some (x ∷ xs) some ∙ ap (slice_split is_line_feed) (last_clear x xs h) ∙ split_clear is_line_feed (x ∷ xs) h

found : (p : ℕ → Bool) (xs : List ℕ) (n : ℕ) → position p xs ≡ Some n → (position_or_len p xs < length xs) × (position_or_len p xs ≡ n)
found p xs n e = grind (arith, nat_tests)

absent : (p : ℕ → Bool) (xs : List ℕ) → position p xs ≡ None → length xs ≤ position_or_len p xs
absent p xs e = grind (arith, nat_tests)

pub is_ten : (x : ℕ) → (x == 10) ≡ true → x ≡ 10
is_ten x e = grind (arith, nat_tests)

-- no element passes where there is no first
all_clear : (p : ℕ → Bool) (xs : List ℕ) → position p xs ≡ None → clear p xs ≡ true
all_clear p xs e = subst (λ l. clear p l ≡ true) (take_all (position_or_len p xs) xs (absent p xs e)) (clear_before p xs)

pub lines_found : (text : List ℕ) (n : ℕ) → position is_line_feed text ≡ Some n → lines_of text ≡ take n text ∷ lines_of (drop (n + 1) text)
lines_found text n e =
    let at = found is_line_feed text n e in
    let ten : get_or text (position_or_len is_line_feed text) 0 ≡ 10 = is_ten _ (passes_at_first is_line_feed text 0 at.0) in
    ap lines_of (split_at_first is_line_feed text 0 at.0 ∙ ap (λ x. before_first is_line_feed text ++ (x ∷ after_first is_line_feed text)) ten)
    ∙ lines_of_line (before_first is_line_feed text) (after_first is_line_feed text) (clear_before is_line_feed text)
    ∙ ap (λ k. take k text ∷ lines_of (drop (k + 1) text)) at.1

pub lines_missing : (text : List ℕ) → (length text == 0) ≡ false → position is_line_feed text ≡ None → lines_of text ≡ text ∷ []
lines_missing [] some e = absurd (let n : true ≡ false = some in cc)
lines_missing (x ∷ xs) some e = lines_of_last (x ∷ xs) (omega arith) (all_clear is_line_feed (x ∷ xs) e)

-- ---- words

pub words_of_blank : (b : ℕ) (bs : List ℕ) → is_blank b ≡ true → words_of (b ∷ bs) ≡ words_of bs
words_of_blank b bs e = ap (filter has_bytes) (slice_split-cons_yes is_blank b bs e)

kept : (w : List ℕ) (ws : List (List ℕ)) → 1 ≤ length w → filter has_bytes (w ∷ ws) ≡ w ∷ filter has_bytes ws
kept [] ws some = absurd (omega (arith, some))
kept (b ∷ bs) ws some = ap (λ t. cond (not t) ((b ∷ bs) ∷ filter has_bytes ws) (filter has_bytes ws)) (is_some_number (length (b ∷ bs)) some)

-- a word, a blank, and then others
pub words_of_word : (w : List ℕ) (b : ℕ) (bs : List ℕ) → 1 ≤ length w → clear is_blank w ≡ true → is_blank b ≡ true → words_of (w ++ b ∷ bs) ≡ w ∷ words_of bs
words_of_word w b bs some h e = ap (filter has_bytes) (split_at is_blank w b bs h e) ∙ kept w (slice_split is_blank bs) some

pub words_of_last : (w : List ℕ) → 1 ≤ length w → clear is_blank w ≡ true → words_of w ≡ w ∷ []
words_of_last w some h = ap (filter has_bytes) (split_clear is_blank w h) ∙ kept w [] some

-- a word goes up to the first blank
first_some : (p : ℕ → Bool) (xs : List ℕ) → 1 ≤ length xs → p (slice_index xs 0) ≡ false → 1 ≤ position_or_len p xs
first_some p [] some e = absurd (omega (arith, some))
first_some p (x ∷ xs) some e = by (p x) e
  where
    by : (b : Bool) → b ≡ false → 1 ≤ cond (not b) (1 + position_or_len p xs) 0
    by true e = absurd (let n : true ≡ false = e in cc)
    by false e = omega arith

pub words_found : (bytes : List ℕ) (n : ℕ) → 1 ≤ length bytes → is_blank (slice_index bytes 0) ≡ false → position is_blank bytes ≡ Some n
    → (1 ≤ n) × (n ≤ length bytes) × (words_of bytes ≡ take n bytes ∷ words_of (drop n bytes))
words_found bytes n some begins e =
    let at = found is_blank bytes n e in
    let some_word : 1 ≤ position_or_len is_blank bytes = first_some is_blank bytes some begins in
    let blank = passes_at_first is_blank bytes 0 at.0 in
    let whole = split_at_first is_blank bytes 0 at.0 in
    let long : length (before_first is_blank bytes) ≡ position_or_len is_blank bytes = length-take-le (position_or_len is_blank bytes) bytes (omega (arith, at.0)) in
    let others : words_of (after_first is_blank bytes) ≡ words_of (drop n bytes) =
    sym (words_of_blank (get_or bytes (position_or_len is_blank bytes) 0) (after_first is_blank bytes) blank) ∙ ap words_of (sym (drop_more bytes (position_or_len is_blank bytes) 0 at.0)) ∙ ap (λ k. words_of (drop k bytes)) at.1 in (
      omega (arith, at.1, some_word),
      omega (arith, at.0, at.1),
      ap words_of whole
          ∙ words_of_word (before_first is_blank bytes) _ (after_first is_blank bytes) (omega (arith, long, some_word)) (clear_before is_blank bytes) blank
          ∙ ap (λ l. before_first is_blank bytes ∷ l) others
          ∙ ap (λ k. take k bytes ∷ words_of (drop n bytes)) at.1,
    )

pub words_missing : (bytes : List ℕ) → 1 ≤ length bytes → position is_blank bytes ≡ None → words_of bytes ≡ bytes ∷ []
words_missing bytes some e = words_of_last bytes some (all_clear is_blank bytes e)

-- the bytes from a place on
abbrev pub from : ℕ → List ℕ → List ℕ
from start line = take (length line - start) (drop start line)

begins_there : (line : List ℕ) (start : ℕ) → is_blank (slice_index line start) ≡ false → is_blank (slice_index (drop start line) 0) ≡ false
begins_there line start e = ap is_blank (get_or-drop start line 0 0 ∙ ap (λ k. get_or line k 0) (omega arith)) ∙ e

pub word_to_blank : (line : List ℕ) (start n : ℕ) → start < length line → is_blank (slice_index line start) ≡ false → position is_blank (from start line) ≡ Some n → IsWordTo line start (start + n)
word_to_blank line start n within begins e =
    let long : length (drop start line) ≡ length line - start = length-drop start line in
    let word = words_found (drop start line) n (omega arith) (begins_there line start begins) (ap (position is_blank) (sym (take_rest line start)) ∙ e) in
    let same : start + n - start ≡ n = omega arith in
    record {
      forward = omega (arith, word.0);
      within = omega (arith, word.1);
      words = word.2 ∙ ap (λ k. take k (drop start line) ∷ words_of (drop n (drop start line))) (sym same) ∙ ap (λ l. take (start + n - start) (drop start line) ∷ words_of l) (drop-drop n start line);
    }

pub word_to_end : (line : List ℕ) (start : ℕ) → start < length line → is_blank (slice_index line start) ≡ false → position is_blank (from start line) ≡ None → IsWordTo line start (length line)
word_to_end line start within begins e =
    let long : length (drop start line) ≡ length line - start = length-drop start line in
    record {
      forward = within;
      within = omega arith;
      words = words_missing (drop start line) (omega arith) (ap (position is_blank) (sym (take_rest line start)) ∙ e)
          ∙ ap (λ l. l ∷ []) (sym (take_rest line start))
          ∙ ap (λ l. from start line ∷ words_of l) (sym (drop_all (length line) line (omega arith)));
    }

-- ---- plain lines

part_plain : (b : ℕ) (bs : List ℕ) → is_plain b ≡ true → (parts : List (List ℕ)) → AllByRecursion IsPlainLine parts → AllByRecursion IsPlainLine (onto_first b parts)
part_plain b bs plain [] all = (ap (λ t. t && true) plain, tt)
part_plain b bs plain (part ∷ parts) all = (ap (λ t. t && list_all is_plain part) plain ∙ all.0, all.1)

not_feed : (p f : Bool) → f ≡ false → (p || f) ≡ true → p ≡ true
not_feed true f e h = refl
not_feed false f e h = absurd (let n : false ≡ true = sym e ∙ h in cc)

parts_plain : (bs : List ℕ) → list_all is_plain_or_feed bs ≡ true → AllByRecursion IsPlainLine (slice_split is_line_feed bs)
parts_plain [] h = (refl, tt)
parts_plain (b ∷ bs) h = by (parts_plain bs (and_parts (is_plain_or_feed b) _ h).1) (and_parts (is_plain_or_feed b) _ h).0 (is_line_feed b) refl
  where
    by : AllByRecursion IsPlainLine (slice_split is_line_feed bs) → is_plain_or_feed b ≡ true → (f : Bool) → is_line_feed b ≡ f → AllByRecursion IsPlainLine (slice_split is_line_feed (b ∷ bs))
    by rest here true e = subst (AllByRecursion IsPlainLine) (sym (slice_split-cons_yes is_line_feed b bs e)) (refl, rest)
    by rest here false e =
        subst (AllByRecursion IsPlainLine) (sym (slice_split-cons_no is_line_feed b bs e)) (part_plain b bs (not_feed (is_plain b) (is_line_feed b) e here) (slice_split is_line_feed bs) rest)

front_all : (p : ℕ → Bool) (k : ℕ) (bs : List ℕ) → list_all p bs ≡ true → list_all p (take k bs) ≡ true
front_all p zero bs h = refl
front_all p (suc k) [] h = refl
front_all p (suc k) (b ∷ bs) h = ap (λ t. t && list_all p (take k bs)) (and_parts (p b) _ h).0 ∙ front_all p k bs (and_parts (p b) _ h).1

without_plain : (text : List ℕ) → list_all is_plain_or_feed text ≡ true → list_all is_plain_or_feed (without_last_line_feed text) ≡ true
without_plain text h = by (slice_index text (length text - 1) == 10)
  where
    by : (b : Bool) → list_all is_plain_or_feed (if b then take (length text - 1) text else text) ≡ true
    by true = front_all is_plain_or_feed (length text - 1) text h
    by false = h

-- each line of a plain text is plain
pub lines_plain : (text : List ℕ) → list_all is_plain_or_feed text ≡ true → AllByRecursion IsPlainLine (lines_of text)
lines_plain text h = by (length text == 0)
  where
    by : (b : Bool) → AllByRecursion IsPlainLine (if b then [] else slice_split is_line_feed (without_last_line_feed text))
    by true = tt
    by false = parts_plain (without_last_line_feed text) (without_plain text h)

-- the first of plain lines is plain, and so are the others
pub first_plain : (known : Bool) (line : List ℕ) (before after : List (List ℕ)) → before ≡ line ∷ after → (known ≡ true → AllByRecursion IsPlainLine before)
    → (known ≡ true → IsPlainLine line) × (known ≡ true → AllByRecursion IsPlainLine after)
first_plain known line before after first plain = (λ e. (subst (AllByRecursion IsPlainLine) first (plain e)).0, λ e. (subst (AllByRecursion IsPlainLine) first (plain e)).1)
