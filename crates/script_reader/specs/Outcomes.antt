-- What a function of the code gives is what a definition gives, unless memory runs out.
use Rattle.std.specs.Prelude.{◌≡◌, ℕ, Ok, Err}
use Rattle.std.specs.declared.result.Result.{Result}
use Rattle.script_reader.specs.declared.step.StepError.{StepError}
use Rattle.script_reader.specs.declared.step.StepError.TheVariants.{Code, NoMemory}

abbrev pub Fails : {B : Type 0} → StepError → Result B ℕ → Type 0
Fails NoMemory read = Unit {0}
Fails (Code c) read = read ≡ Err c

abbrev pub Gives : {B : Type 0} → Result B StepError → Result B ℕ → Type 0
Gives (Ok x) read = read ≡ Ok x
Gives (Err e) read = Fails e read

-- What a function of the code left behind is what a definition gives, unless memory runs out.
abbrev pub Moves : {A B : Type 0} → Result A StepError → B → Result B ℕ → Type 0
Moves (Ok _) after read = read ≡ Ok after
Moves (Err e) after read = Fails e read
