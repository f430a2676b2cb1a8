-- Which refusal of an input of two policies the refusal of a part is.
use Rattle.std.proofs.Common.{◌≡◌, ℕ, Bool, List, Ok, Err, Result, inl, inr}
use Rattle.script_reader.specs.UpdateTexts.{UpdateTextOf, update_text_at}
use Rattle.policy_compiler.specs.Policies.{PolicyOf}
use Rattle.policy_compiler.specs.Gives.{Reads}
use Rattle.command_answers.specs.declared.answers.NoAnswer.{NoAnswer}
use Rattle.command_answers.specs.declared.answers.NoAnswer.TheVariants.{Refused, NoMemory}
use Rattle.command_answers.specs.declared.refusals.policy_lines.WhichPolicy.{WhichPolicy}
use Rattle.command_answers.specs.declared.refusals.policy_lines.WhichPolicy.TheVariants.{Old, New}
use Rattle.command_answers.specs.AnswerForms.{GivesOr}
use Rattle.command_answers.specs.PolicyLines.{IsNoPolicy}
use Rattle.command_answers.specs.UpdateInputs.{UpdateOf, IsUpdate, IsNoUpdate}

abbrev Updates : Bool → List ℕ → Result UpdateOf NoAnswer → Type 0
Updates lanes bytes = GivesOr (IsUpdate lanes bytes) (IsNoUpdate lanes bytes)

abbrev pub IsPolicyOr : WhichPolicy → List ℕ → Result PolicyOf NoAnswer → Type 0
IsPolicyOr which bytes = GivesOr (λ p. Reads (Ok p) bytes) (IsNoPolicy which bytes)

pub old_refused : (lanes : Bool) (bytes : List ℕ) (t : UpdateTextOf) (e : NoAnswer) → update_text_at lanes bytes ≡ Ok t → IsPolicyOr Old t.old (Err e) → Updates lanes bytes (Err e)
old_refused lanes bytes t (Refused line) headed h = inr (inl (record { text = t; headed = headed; fault = h }))
old_refused lanes bytes t NoMemory headed h = tt

pub new_refused : (lanes : Bool) (bytes : List ℕ) (t : UpdateTextOf) (old : PolicyOf) (e : NoAnswer) → update_text_at lanes bytes ≡ Ok t → Reads (Ok old) t.old → IsPolicyOr New t.new (Err e) → Updates lanes bytes (Err e)
new_refused lanes bytes t old (Refused line) headed is h = inr (inr (record { text = t; policy = old; headed = headed; old = is; fault = h }))
new_refused lanes bytes t old NoMemory headed is h = tt
