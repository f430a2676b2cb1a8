-- What `audit` answers.
use Rattle.std.specs.Prelude.{◌≡◌, ◌⊎◌, ℕ, ◌+◌, List, ◌++◌, codes, None, Some, Ok, Err}
use Rattle.std.specs.Fmt.{decimal}
use Rattle.std.specs.declared.option.Option.{Option}
use Rattle.script_reader.specs.declared.script.ScriptError.{ScriptError}
use Rattle.script_reader.specs.declared.script.ScriptError.TheVariants.{BadLine}
use Rattle.script_reader.specs.Scripts.{ScriptOf, Bad}
use Rattle.script_reader.specs.Answers.{reading_of}
use Rattle.script_reader.specs.ReportTexts.{ReportTextOf, report_text_at}
use Rattle.audit_reader.specs.declared.answer.Audit.{Audit}
use Rattle.audit_reader.specs.declared.answer.Audit.TheVariants.{Legal, BadAt}
use Rattle.audit_reader.specs.Audits.{Audits}
use Rattle.command_answers.specs.declared.status.Status.{Status}
use Rattle.command_answers.specs.declared.status.Status.TheVariants.{Done, NotLegal}
use Rattle.command_answers.specs.ScriptLines.{refusal_line}

-- The bytes have a heading, a script before it that can be run, and a report after it.
pub record CanBeAudited (bytes : List ℕ) : Type 0 where
  pub parts : ReportTextOf
  pub script : ScriptOf
  pub parted : report_text_at bytes ≡ Ok parts
  pub stands_for : reading_of parts.script ≡ Ok script

-- ---- what is said

-- The line for what was found of a report, of which the heading has this line. No history is told of.
abbrev pub Says : ℕ → Audit → Status → Option (List ℕ) → List ℕ → Type 0
Says heading Legal status history text = (status ≡ Done) × (history ≡ None) × (text ≡ codes "yes\n")
Says heading (BadAt line) status history text =
    (status ≡ NotLegal) × (history ≡ None) × (text ≡ codes "no " ++ (decimal (heading + line) ++ codes "\n"))

-- It is said of the report whether it is that of a legal history of the script, or which line is its first bad one.
pub record IsSaid (script : ScriptOf) (heading : ℕ) (report : List ℕ) (status : Status) (history : Option (List ℕ)) (text : List ℕ) : Type 0 where
  pub found : Audit
  pub true_of : Audits script report found
  pub says : Says heading found status history text

-- so of the parts of an input
pub record IsAudited (bytes : List ℕ) (status : Status) (history : Option (List ℕ)) (text : List ℕ) : Type 0 where
  pub input : CanBeAudited bytes
  pub said : IsSaid input.script input.parts.heading input.parts.report status history text

-- ---- refusals, in the order in which they come

-- no heading
pub record HasNoReport (bytes line : List ℕ) : Type 0 where
  pub bad : Bad
  pub fault : report_text_at bytes ≡ Err bad
  pub named : refusal_line (BadLine bad.line bad.code) ≡ Some line

-- a heading, but no script before it, or one that needs too many events
pub record HasNoScript (bytes line : List ℕ) : Type 0 where
  pub parts : ReportTextOf
  pub error : ScriptError
  pub parted : report_text_at bytes ≡ Ok parts
  pub refused : reading_of parts.script ≡ Err error
  pub named : refusal_line error ≡ Some line

abbrev pub IsNotAudited : List ℕ → List ℕ → Type 0
IsNotAudited bytes line = HasNoReport bytes line ⊎ HasNoScript bytes line
