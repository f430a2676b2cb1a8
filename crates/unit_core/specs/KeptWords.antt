-- What is kept of events in words: a word says all of a submission that is no wide one, and the number of one that is.
use Rattle.std.specs.Prelude.{◌≡◌, ℕ, ◌+◌, ◌-◌, ◌^◌, ◌/◌, ◌%◌, ◌≤◌, ◌==◌, ◌&&◌, nat_le, Bool, true, false, List, Option, None, Some, if◌then◌else◌, length, map, slice_index_or}
use Rattle.std.specs.List.{AllByRecursion}
use Rattle.event_words.specs.declared.access.Access.{Access}
use Rattle.event_words.specs.declared.event.Event.{Event}
use Rattle.event_words.specs.declared.event.Event.TheVariants.{Submit}
use Rattle.event_words.specs.Word.{event_of_word}
use Rattle.unit_core.specs.declared.kept.Kept.{Kept}
use Rattle.unit_core.specs.Places.{nothing_kept}

-- What contracts see of all that is kept: what is kept of each event, the number of events that there is room for, and
-- how many wide submissions were kept so far.
pub record KeptView : Type 0 where
  pub items : List Kept
  pub places : ℕ
  pub wides : ℕ

-- what is kept of a submission that is open
abbrev pub kept_of : ℕ → ℕ → Access → Kept
kept_of unit caller access =
    record { addr = access.addr; len = access.len; rrid = access.rrid; kind = access.kind; unit = unit; caller = caller; is_open = true }

-- what is kept of an event that may be a submission
abbrev pub kept_of_event : Option Event → Kept
kept_of_event (Some (Submit unit caller access)) = kept_of unit caller access
kept_of_event _ = nothing_kept

abbrev pub is_submit : Option Event → Bool
is_submit (Some (Submit unit caller access)) = true
is_submit _ = false

-- It is the word of a submission that is no wide one.
abbrev pub is_submit_word : ℕ → Bool
is_submit_word word = is_submit (event_of_word word)

-- It is of the kind of a Submit, to this unit by this caller.
abbrev pub is_submit_of : ℕ → ℕ → ℕ → Bool
is_submit_of word unit caller =
    word / 2 ^ 61 == 3 && word / 2 ^ 54 % 4 == unit && word / 2 ^ 56 % 32 == caller

-- what the number of a wide submission stands for, which counts from 1
abbrev pub wide_at : List Kept → ℕ → Kept
wide_at wide number = if number == 0 then nothing_kept else slice_index_or wide (number - 1) nothing_kept

-- what a word stands for, beside the wide submissions so far
abbrev pub kept_by : List Kept → ℕ → Kept
kept_by wide word = if word / 2 ^ 61 == 3 then kept_of_event (event_of_word word) else wide_at wide word

-- A word that stands for something beside so many wide submissions.
abbrev pub stands : ℕ → ℕ → Bool
stands count word = if word / 2 ^ 61 == 3 then is_submit_word word else nat_le word count

abbrev pub Stands : ℕ → ℕ → Type 0
Stands count word = stands count word ≡ true

-- What ties the words to the wide submissions, of which there is room for as many.
pub record AreKept (words : List ℕ) (wide : List Kept) (room wide_room : ℕ) : Type 0 where
  pub stand : AllByRecursion (Stands (length wide)) words
  pub rooms : room ≤ wide_room

abbrev pub kept_view : List ℕ → List Kept → ℕ → KeptView
kept_view words wide room = record { items = map (kept_by wide) words; places = room; wides = length wide }

-- There is room for the submission at a place, even for a wide one.
pub record HasRoom (place : ℕ) (kept : KeptView) : Type 0 where
  pub wides : kept.wides ≤ place
  pub places : length kept.items ≤ kept.places
  pub few : kept.places ≤ 1048576

-- How many wide submissions more are kept with one: none with one that has a word.
abbrev pub wides_of : Option ℕ → ℕ
wides_of None = 1
wides_of (Some word) = 0

-- What is kept changed, with at most so many wide submissions more.
pub record KeepsRoom (more : ℕ) (kept kept' : KeptView) : Type 0 where
  pub len : length kept'.items ≡ length kept.items
  pub places : kept'.places ≡ kept.places
  pub wides : kept'.wides ≤ kept.wides + more

-- A word of a Submit of this unit, this caller and this access.
abbrev pub IsWordOf : ℕ → ℕ → Access → ℕ → Type 0
IsWordOf unit caller access word = (word / 2 ^ 61 ≡ 3) × (event_of_word word ≡ Some (Submit unit caller access))
