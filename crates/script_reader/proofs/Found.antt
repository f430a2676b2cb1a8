-- The words that are found from a line's beginning on.
use Rattle.std.proofs.Common.{◌≡◌, ◌⊎◌, ℕ, ◌+◌, ◌-◌, ◌<◌, ◌≤◌, ◌==◌, Bool, true, false, if◌then◌else◌, List, [], ◌∷◌, length, drop, get_or, slice_index, slice_range, slice_set, refl, ap, sym, subst, ◌∙◌, inl, inr, arith, length-drop}
use Rattle.std.proofs.lemmas.Bool.{cases_lt}
use Rattle.std.proofs.lemmas.Bool.Decides.{nat_tests}
use Rattle.std.proofs.lemmas.List.{drop_all, drop_more, get_or_past, get_or-set_same, get_or-set_other, length-set}
use Rattle.script_reader.specs.Text.{is_blank, line_end, first_line, words_of}
use Rattle.script_reader.specs.Words.{word_at, after_space, StandsAt, IsWordTo, HoldsWords}
use Rattle.script_reader.proofs.FirstLine.{line_length, same_byte, byte_within}
use Rattle.script_reader.proofs.Parts.{words_of_blank}

-- so many words are found up to a place, and the places of the first 19 are kept
pub record Found (line starts ends : List ℕ) (count at : ℕ) : Type 0 where
  pub within : at ≤ length line
  pub short : count ≤ at
  pub few : count ≤ length (words_of line)
  pub left : drop count (words_of line) ≡ words_of (drop at line)
  pub start_room : length starts ≡ 19
  pub end_room : length ends ≡ 19
  pub places : (i : ℕ) → i < count → i < 19 → StandsAt line (slice_index starts i) (slice_index ends i) (word_at (words_of line) i)

pub found_none : (line starts ends : List ℕ) → length starts ≡ 19 → length ends ≡ 19 → Found line starts ends 0 0
found_none line starts ends s e = record {
  within = omega arith;
  short = omega arith;
  few = omega arith;
  left = refl;
  start_room = s;
  end_room = e;
  places = λ i h k. absurd (omega (arith, h));
}

-- a blank more
pub found_blank : (line starts ends : List ℕ) (count at : ℕ) → at < length line → is_blank (slice_index line at) ≡ true → Found line starts ends count at → Found line starts ends count (at + 1)
found_blank line starts ends count at h blank found = record {
  within = omega arith;
  short = omega (arith, found.short);
  few = found.few;
  left = found.left ∙ ap words_of (drop_more line at 0 h) ∙ words_of_blank (get_or line at 0) (drop (at + 1) line) blank;
  start_room = found.start_room;
  end_room = found.end_room;
  places = found.places;
}

is_space : (b : ℕ) → (b == 32) ≡ true → b ≡ 32
is_space b h = grind (arith, nat_tests)

-- past a space of a text's first line, if one stands there
pub found_past : (text starts ends : List ℕ) (count at : ℕ) → Found (first_line text) starts ends count at → Found (first_line text) starts ends count (after_space text at)
found_past text starts ends count at found = by (slice_index text at == 32) refl
  where
    by : (b : Bool) → (slice_index text at == 32) ≡ b → Found (first_line text) starts ends count (if b then at + 1 else at)
    by true e =
        let space : get_or text at 0 ≡ 32 = is_space (get_or text at 0) e in
        let long = line_length text in
        let inside : at < length text = within (cases_lt at (length text)) space in
        let here : at < line_end text = byte_within text at (omega (arith, found.within, long)) inside (λ feed. omega (arith, space, feed)) in
        found_blank (first_line text) starts ends count at (omega (arith, here, long)) (ap is_blank (same_byte text at here ∙ space)) found
      where
        within : (at < length text) ⊎ (length text ≤ at) → get_or text at 0 ≡ 32 → at < length text
        within (inl before) space = before
        within (inr past) space = absurd (omega (arith, get_or_past text at 0 past, space))
    by false e = found

-- a word more
pub found_word : (line starts ends : List ℕ) (count at end : ℕ) → IsWordTo line at end → Found line starts ends count at → Found line (slice_set starts count at) (slice_set ends count end) (count + 1) end
found_word line starts ends count at end word found =
    let all : List (List ℕ) = words_of line in
    let w : List ℕ = slice_range line at end in
    let next : drop count all ≡ w ∷ words_of (drop end line) = found.left ∙ word.words in
    let some : length all - count ≡ length (words_of (drop end line)) + 1 = sym (length-drop count all) ∙ ap length next ∙ omega arith in
    let here : drop count all ≡ get_or all count [] ∷ drop (count + 1) all = drop_more all count [] (omega (arith, some)) in
    let first : get_or all count [] ≡ w = cc in
    let rest : drop (count + 1) all ≡ words_of (drop end line) = cc in
    record {
      within = word.within;
      short = omega (arith, found.short, word.forward);
      few = omega (arith, some);
      left = rest;
      start_room = length-set starts count at ∙ found.start_room;
      end_room = length-set ends count end ∙ found.end_room;
      places = places line starts ends count at end (record { forward = omega (arith, word.forward); within = word.within; bytes = sym first }) found;
    }
  where
    at_place : (line : List ℕ) (s t start end : ℕ) (word : List ℕ) → s ≡ start → t ≡ end → StandsAt line start end word → StandsAt line s t word
    at_place line s t start end word a b here = subst (λ k. StandsAt line k t word) (sym a) (subst (λ k. StandsAt line start k word) (sym b) here)

    places : (line starts ends : List ℕ) (count at end : ℕ) → StandsAt line at end (word_at (words_of line) count) → Found line starts ends count at → (i : ℕ) → i < count + 1 → i < 19
        → StandsAt line (slice_index (slice_set starts count at) i) (slice_index (slice_set ends count end) i) (word_at (words_of line) i)
    places line starts ends count at end new found i h k =
        elim (cases_lt i count) [
          | inl before ↦ at_place line _ _ (slice_index starts i) (slice_index ends i) (word_at (words_of line) i)
              (get_or-set_other starts count i at 0 (λ e. omega (arith, e, before))) (get_or-set_other ends count i end 0 (λ e. omega (arith, e, before))) (found.places i before k)
          | inr after ↦
              let same : count ≡ i = omega (arith, h, after) in
              let added : StandsAt line at end (word_at (words_of line) i) = subst (λ j. StandsAt line at end (word_at (words_of line) j)) same new in
              at_place line _ _ at end (word_at (words_of line) i)
              (ap (slice_index (slice_set starts count at)) (sym same) ∙ get_or-set_same starts count at 0 (omega (arith, found.start_room)))
              (ap (slice_index (slice_set ends count end)) (sym same) ∙ get_or-set_same ends count end 0 (omega (arith, found.end_room)))
              added
        ]

pub found_all : (line starts ends : List ℕ) (count at : ℕ) → length line ≤ at → Found line starts ends count at → HoldsWords line starts ends count
found_all line starts ends count at h found =
    let none : words_of (drop at line) ≡ [] = ap words_of (drop_all at line h) in
    let done : length (words_of line) - count ≡ 0 = sym (length-drop count (words_of line)) ∙ ap length (found.left ∙ none) in
    record { all = omega (arith, found.few, done); places = found.places }
