-- The lines of a text and the words of a line.
use Rattle.std.specs.Prelude.{◌≡◌, ℕ, ◌-◌, ◌==◌, ◌&&◌, ◌||◌, nat_le, Bool, true, if◌then◌else◌, List, [], ◌∷◌, None, Some, length, filter, not, take, slice_index}
use Rattle.std.specs.declared.option.Option.{Option}
use Rattle.std.specs.List.{list_all, slice_split, position_or_len}
use denote.Ref.{Bor}

abbrev pub is_line_feed : ℕ → Bool
is_line_feed b = b == 10

-- space, tab and carriage return stand between words
abbrev pub is_blank : ℕ → Bool
is_blank b = b == 32 || (b == 9 || b == 13)

-- a byte that may stand in a line
abbrev pub is_plain : ℕ → Bool
is_plain b = (nat_le 32 b && nat_le b 126) || (b == 9 || b == 13)

-- a byte that may stand in a text of such lines
abbrev pub is_plain_or_feed : ℕ → Bool
is_plain_or_feed b = is_plain b || is_line_feed b

abbrev pub IsPlainLine : List ℕ → Type 0
IsPlainLine line = list_all is_plain line ≡ true

-- where the first line of a text ends
abbrev pub line_end : List ℕ → ℕ
line_end text = position_or_len is_line_feed text

-- the first line of a text, without its line feed
abbrev pub first_line : List ℕ → List ℕ
first_line text = take (line_end text) text

-- a blank or a line feed ends a word
abbrev pub ends_word : ℕ → Bool
ends_word b = is_blank b || is_line_feed b

-- the text without the line feed at its end, if it has one
abbrev pub without_last_line_feed : List ℕ → List ℕ
without_last_line_feed text = if slice_index text (length text - 1) == 10 then take (length text - 1) text else text

abbrev pub lines_of : List ℕ → List (List ℕ)
lines_of text = if length text == 0 then [] else slice_split is_line_feed (without_last_line_feed text)

abbrev pub has_bytes : List ℕ → Bool
has_bytes word = not (length word == 0)

abbrev pub words_of : List ℕ → List (List ℕ)
words_of line = filter has_bytes (slice_split is_blank line)

-- the first of these lines was taken, if there was one, and the others are left
abbrev pub Takes : List (List ℕ) → List (List ℕ) → Option (Bor (List ℕ)) → Type 0
Takes before after None = (before ≡ []) × (after ≡ [])
Takes before after (Some line) = before ≡ line.now ∷ after
