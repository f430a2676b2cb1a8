-- What the functions that turn an input into an answer give, unless memory runs out.
use Rattle.std.specs.Prelude.{◌≡◌, ℕ, List, Result, Ok, Err, Option, Some, None, IsSomeAnd}
use Rattle.std.specs.String.{string_bytes}
use Rattle.command_answers.specs.declared.status.Status.{Status}
use Rattle.command_answers.specs.declared.status.Status.TheVariants.{Done}
use Rattle.command_answers.specs.declared.answers.NoAnswer.{NoAnswer}
use Rattle.command_answers.specs.declared.answers.NoAnswer.TheVariants.{Refused, NoMemory}

-- ---- what an answer is

-- the work is done, and this is its text; no history is told of
abbrev pub TextOf : (List ℕ → Type 0) → Status → Option (List ℕ) → List ℕ → Type 0
TextOf Is status history text = (status ≡ Done) × (history ≡ None) × Is text

-- the work is done, and the text tells of this history
abbrev pub ReportOf : (List ℕ → List ℕ → Type 0) → Status → Option (List ℕ) → List ℕ → Type 0
ReportOf Is status history text = (status ≡ Done) × IsSomeAnd history (λ words. Is words text)

-- ---- what a function gives

-- the value meets this, or the line of the refusal does; of want of memory nothing is said
abbrev pub GivesOr : {A : Type 0} → (A → Type 0) → (List ℕ → Type 0) → Result A NoAnswer → Type 0
GivesOr Is IsLine (Ok value) = Is value
GivesOr Is IsLine (Err (Refused line)) = IsLine (string_bytes line)
GivesOr Is IsLine (Err NoMemory) = Unit {0}

-- a refusal has this line
abbrev pub HasLine : NoAnswer → Option (List ℕ) → Type 0
HasLine (Refused line) wanted = wanted ≡ Some (string_bytes line)
HasLine NoMemory wanted = Unit {0}
