-- The one line that is written where a script is refused.
use Rattle.std.specs.Prelude.{ℕ, List, ◌++◌, Option, Some, None, codes}
use Rattle.std.specs.Fmt.{decimal}
use Rattle.script_reader.specs.declared.script.ScriptError.{ScriptError}
use Rattle.script_reader.specs.declared.script.ScriptError.TheVariants.{BadLine, TooManyEvents, NoMemory}

-- for a bad line, or for too many events; want of memory has no line
abbrev pub refusal_line : ScriptError → Option (List ℕ)
refusal_line (BadLine line code) = Some (codes "iopmp: line " ++ (decimal line ++ (codes " code " ++ (decimal code ++ codes "\n"))))
refusal_line (TooManyEvents need have) = Some (codes "iopmp: need " ++ (decimal need ++ (codes " of " ++ (decimal have ++ codes " events\n"))))
refusal_line NoMemory = None
