-- What a line begins with: the number of events, or an event's place and whose it is.
use Rattle.std.specs.Prelude.{◌≡◌, ℕ, List, ◌++◌, codes}
use Rattle.std.specs.Fmt.{decimal}

-- The text begins with this front.
abbrev pub BeginsWith : List ℕ → List ℕ → Type 0
BeginsWith front text = (rest : List ℕ) × (text ≡ front ++ rest)

-- a number and a space
abbrev pub number_front : ℕ → List ℕ
number_front n = decimal n ++ codes " "

-- what stands before the event in a line of this place by this caller
abbrev pub event_front : ℕ → ℕ → List ℕ
event_front place caller = number_front place ++ number_front caller
