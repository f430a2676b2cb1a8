-- What `gen` answers.
use Rattle.std.specs.Prelude.{◌≡◌, ℕ, List, Ok}
use Rattle.script_reader.specs.Answers.{reading_of}
use Rattle.script_reader.specs.Printed.{script_text}
use Rattle.script_generator.specs.GeneratedScripts.{generated_script}

-- the printed script of a number
unfoldable pub generated_text : ℕ → List ℕ
generated_text number = script_text (generated_script number)

-- the text is that one, as which it is read back
pub record IsGenerated (number : ℕ) (text : List ℕ) : Type 0 where
  pub printed : text ≡ generated_text number
  pub read_back : reading_of text ≡ Ok (generated_script number)
