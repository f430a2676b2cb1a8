-- The first line of a text, and the words that begin in it.
use Rattle.std.proofs.Common.{◌≡◌, ◌≢◌, ◌⊎◌, ℕ, ◌+◌, ◌-◌, ◌<◌, ◌≤◌, ◌||◌, Bool, true, false, List, None, Some, length, position, drop, get_or, slice_index, refl, ap, sym, subst, ◌∙◌, inl, inr, arith, length-drop, get_or-take}
use Rattle.std.proofs.lemmas.Bool.{cases_lt, or_parts, or_right}
use Rattle.std.proofs.lemmas.Bool.Decides.{nat_tests}
use Rattle.std.proofs.lemmas.List.{length-take-le, get_or-drop, take_rest}
use Rattle.std.proofs.lemmas.List.Sums.{prefix_len-le-length, position_or_len_is, fails_before_first, passes_at_first}
use Rattle.std.specs.List.{position_or_len}
use Rattle.script_reader.specs.Text.{is_blank, is_line_feed, ends_word, line_end, first_line}
use Rattle.script_reader.specs.Words.{IsWordTo}
use Rattle.script_reader.proofs.Parts.{is_ten, word_to_blank, word_to_end}
use Rattle.script_reader.proofs.Slots.{not_both}

pub line_within : (text : List ℕ) → line_end text ≤ length text
line_within text = prefix_len-le-length _ text

pub line_length : (text : List ℕ) → length (first_line text) ≡ line_end text
line_length text = length-take-le (line_end text) text (line_within text)

pub same_byte : (text : List ℕ) (k : ℕ) → k < line_end text → get_or (first_line text) k 0 ≡ get_or text k 0
same_byte text k h = get_or-take (line_end text) text k 0 h

-- a line feed that isn't past the first line ends it
pub feed_ends : (text : List ℕ) (at : ℕ) → at ≤ line_end text → get_or text at 0 ≡ 10 → at ≡ line_end text
feed_ends text at h e =
    elim (cases_lt at (line_end text)) [
      | inl before ↦ absurd (not_both (is_line_feed (get_or text at 0)) (ap is_line_feed e) (fails_before_first is_line_feed text at 0 before))
      | inr after ↦ omega (arith, h, after)
    ]

-- another byte stands in it
pub byte_within : (text : List ℕ) (at : ℕ) → at ≤ line_end text → at < length text → get_or text at 0 ≢ 10 → at < line_end text
byte_within text at h k e =
    elim (cases_lt at (line_end text)) [
      | inl before ↦ before
      | inr after ↦
          let here : at ≡ line_end text = omega (arith, h, after) in
          absurd (e (is_ten _ (ap (λ i. is_line_feed (get_or text i 0)) here ∙ passes_at_first is_line_feed text 0 (omega (arith, here, k)))))
    ]

-- ---- words

pub position_some : (p : ℕ → Bool) (xs : List ℕ) (n : ℕ) → position_or_len p xs ≡ n → n < length xs → position p xs ≡ Some n
position_some p xs n e h = grind (arith, nat_tests)

pub position_none : (p : ℕ → Bool) (xs : List ℕ) (n : ℕ) → position_or_len p xs ≡ n → length xs ≤ n → position p xs ≡ None
position_none p xs n e h = grind (arith, nat_tests)

-- a word goes on to the first blank, or to the end of the line
runs_to : (line : List ℕ) (start end : ℕ) → start < length line → is_blank (slice_index line start) ≡ false → start ≤ end → end ≤ length line
    → ((k : ℕ) → start ≤ k → k < end → is_blank (get_or line k 0) ≡ false) → (end < length line → is_blank (get_or line end 0) ≡ true) → IsWordTo line start end
runs_to line start end within begins forward short before stops =
    let rest : List ℕ = drop start line in
    let long : length rest ≡ length line - start = length-drop start line in
    let there : start + (end - start) ≡ end = omega arith in
    let first : position_or_len is_blank rest ≡ end - start =
    position_or_len_is is_blank rest (end - start) 0 (omega (arith, long))
    (λ k h. ap is_blank (get_or-drop start line k 0) ∙ before (start + k) (omega arith) (omega (arith, h)))
    (λ h. ap is_blank (get_or-drop start line (end - start) 0) ∙ ap (λ i. is_blank (get_or line i 0)) there ∙ stops (omega (arith, h, long))) in
    elim (cases_lt end (length line)) [
      | inl more ↦ subst (IsWordTo line start) there (word_to_blank line start (end - start) within begins (ap (position is_blank) (take_rest line start) ∙ position_some is_blank rest (end - start) first (omega (arith, long, more))))
      | inr none ↦
          subst (IsWordTo line start) (let last : length line ≡ end = omega (arith, short, none) in last)
          (word_to_end line start within begins (ap (position is_blank) (take_rest line start) ∙ position_none is_blank rest (end - start) first (omega (arith, long, none))))
    ]

only_left : (a b : Bool) → b ≡ false → (a || b) ≡ true → a ≡ true
only_left true b f e = refl
only_left false b f e = sym f ∙ e

-- a word that begins in the first line of a text goes on to the first byte that ends a word, or to the end of the text
pub first_word : (text : List ℕ) (start end : ℕ) → start < line_end text → is_blank (slice_index text start) ≡ false → start < end → end ≤ length text
    → ((k : ℕ) → start < k → k < end → ends_word (get_or text k 0) ≡ false) → (end < length text → ends_word (get_or text end 0) ≡ true) → IsWordTo (first_line text) start end
first_word text start end begins word forward within before stops =
    let long = line_length text in
    let short : end ≤ line_end text = within_line (cases_lt (line_end text) end) in
    runs_to (first_line text) start end (omega (arith, long, begins)) (ap is_blank (same_byte text start begins) ∙ word) (omega (arith, forward)) (omega (arith, long, short))
    (λ k h l. ap is_blank (same_byte text k (omega (arith, l, short))) ∙ not_blank k (cases_lt start k) h l)
    (λ h.
    let here : end < line_end text = omega (arith, h, long) in
    ap is_blank (same_byte text end here)
    ∙ only_left (is_blank (get_or text end 0)) (is_line_feed (get_or text end 0)) (fails_before_first is_line_feed text end 0 here) (stops (omega (arith, here, line_within text))))
  where
    within_line : (line_end text < end) ⊎ (end ≤ line_end text) → end ≤ line_end text
    within_line (inl past) =
        let feed = passes_at_first is_line_feed text 0 (omega (arith, past, within)) in
        absurd (not_both _ (or_right (is_blank (get_or text (line_end text) 0)) _ feed) (before (line_end text) begins past))
    within_line (inr up_to) = up_to

    not_blank : (k : ℕ) → (start < k) ⊎ (k ≤ start) → start ≤ k → k < end → is_blank (get_or text k 0) ≡ false
    not_blank k (inl after) h l = (or_parts (is_blank (get_or text k 0)) _ (before k after l)).0
    not_blank k (inr up_to) h l = let here : k ≡ start = omega (arith, h, up_to) in ap (λ i. is_blank (get_or text i 0)) here ∙ word
