-- What a history of a generated script is, and that each legal one is.
use Rattle.std.specs.Prelude.{◌≡◌, ℕ, List, length}
use Rattle.script_reader.specs.Scripts.{ScriptOf}
use Rattle.unit_core.specs.Histories.{IsLegalHistory, logged_in}
use Rattle.script_generator.specs.GeneratedScripts.{generated_script}
use Rattle.script_generator.specs.Summaries.{summary_text, verdict_codes, soak_text}

-- The history is legal for the script and has a verdict for each of its 32768 transactions, and the summary
-- of its verdicts is the one that the tables after the boot section give.
pub record IsSoakOf (number : ℕ) (script : ScriptOf) (history : List ℕ) : Type 0 where
  pub legal : IsLegalHistory script.shapes script.boot script.lanes history
  pub all : length (verdict_codes (logged_in script.shapes history)) ≡ 32768
  pub counted : soak_text number ≡ summary_text number (verdict_codes (logged_in script.shapes history))

-- so for the generated script of the number
abbrev pub IsSoak : ℕ → List ℕ → Type 0
IsSoak number history = IsSoakOf number (generated_script number) history

-- Each legal history of a generated script is one.
abbrev pub LawSoak : Type 0
LawSoak =
    (number : ℕ) (history : List ℕ) → IsLegalHistory (generated_script number).shapes (generated_script number).boot (generated_script number).lanes history
    → IsSoak number history
