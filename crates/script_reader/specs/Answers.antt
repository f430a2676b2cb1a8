-- What reading a script answers.
use Rattle.std.specs.Prelude.{◌≡◌, ℕ, nat_le, if◌then◌else◌, List, Ok, Err}
use Rattle.std.specs.declared.result.Result.{Result}
use Rattle.script_reader.specs.declared.script.ScriptError.{ScriptError}
use Rattle.script_reader.specs.declared.script.ScriptError.TheVariants.{BadLine, TooManyEvents, NoMemory}
use Rattle.script_reader.specs.declared.step.StepError.{StepError}
use Rattle.script_reader.specs.declared.step.StepError.TheVariants as step
use Rattle.script_reader.specs.Scripts.{ScriptOf, Bad, script_at, need_of}

-- the most events that a run may need
abbrev pub most_needed : ℕ
most_needed = 1048576

-- a script whose run needs few enough events, else that it needs too many
abbrev pub affordable : ScriptOf → Result ScriptOf ScriptError
affordable script = if nat_le (need_of script) most_needed then Ok script else Err (TooManyEvents (need_of script) most_needed)

abbrev pub judged : Result ScriptOf Bad → Result ScriptOf ScriptError
judged (Ok script) = affordable script
judged (Err bad) = Err (BadLine bad.line bad.code)

-- The answer to bytes: the script, or the first bad line, or that a run would need too many events.
abbrev pub reading_of : List ℕ → Result ScriptOf ScriptError
reading_of bytes = judged (script_at bytes)

abbrev pub Refuses : ScriptError → Result ScriptOf ScriptError → Type 0
Refuses NoMemory reading = Unit {0}
Refuses error reading = reading ≡ Err error

-- the answer is this one, unless memory runs out
abbrev pub Answers : Result ScriptOf ScriptError → Result ScriptOf ScriptError → Type 0
Answers (Ok script) reading = reading ≡ Ok script
Answers (Err error) reading = Refuses error reading

-- what the lines give is this, unless memory runs out
abbrev pub Reads : {A : Type 0} → Result A ScriptError → Result A Bad → Type 0
Reads (Ok x) read = read ≡ Ok x
Reads (Err (BadLine line code)) read = read ≡ Err (record { line = line; code = code })
Reads (Err (TooManyEvents need have)) read = ⊥
Reads (Err NoMemory) read = Unit {0}

-- why a line refuses the script
abbrev pub refusal_of : ℕ → StepError → ScriptError
refusal_of line (step.Code code) = BadLine line code
refusal_of line step.NoMemory = NoMemory
