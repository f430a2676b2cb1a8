-- What an input of two policies stands for, and the one line with which it is refused.
use Rattle.std.specs.Prelude.{◌≡◌, ◌⊎◌, ℕ, ◌≤◌, Bool, List, length, Some, Ok, Err}
use Rattle.event_words.specs.Sections.{IsMax}
use Rattle.script_reader.specs.declared.script.ScriptError.TheVariants.{BadLine}
use Rattle.script_reader.specs.Scripts.{Bad}
use Rattle.script_reader.specs.UpdateTexts.{UpdateTextOf, update_text_at}
use Rattle.policy_compiler.specs.Policies.{PolicyOf, IsPolicy}
use Rattle.policy_compiler.specs.Gives.{Reads}
use Rattle.update_planner.specs.declared.answer.PlanError.{PlanError}
use Rattle.update_planner.specs.Refusals.{plan_refusal}
use Rattle.command_answers.specs.declared.refusals.policy_lines.WhichPolicy.TheVariants.{Old, New}
use Rattle.command_answers.specs.ScriptLines.{refusal_line}
use Rattle.command_answers.specs.PolicyLines.{IsNoPolicy}
use Rattle.command_answers.specs.PlanLines.{plan_line}

-- Two policies, the most polls of the stall register, and the text of lanes with the number of its first line.
pub record UpdateOf : Type 0 where
  pub old : PolicyOf
  pub new : PolicyOf
  pub polls : ℕ
  pub lanes : List ℕ
  pub first_line : ℕ

abbrev pub update_of : PolicyOf → PolicyOf → UpdateTextOf → UpdateOf
update_of old new t =
    record { old = old; new = new; polls = t.polls; lanes = t.lanes; first_line = t.first_line }

-- The input has all its headings, and two policies between them.
pub record IsUpdate (with_lanes : Bool) (bytes : List ℕ) (u : UpdateOf) : Type 0 where
  pub text : UpdateTextOf
  pub headed : update_text_at with_lanes bytes ≡ Ok text
  pub old : Reads (Ok u.old) text.old
  pub new : Reads (Ok u.new) text.new
  pub is : u ≡ update_of u.old u.new text

-- The bytes stand for an update of which this holds.
pub record OfUpdate (with_lanes : Bool) (Is : UpdateOf → Type 0) (bytes : List ℕ) : Type 0 where
  pub update : UpdateOf
  pub stands_for : IsUpdate with_lanes bytes update
  pub is : Is update

-- what holds of each update that is read
pub record IsReadable (u : UpdateOf) : Type 0 where
  pub old : IsPolicy u.old
  pub new : IsPolicy u.new
  pub polls : IsMax u.polls
  pub lanes : length u.lanes ≤ 4194304
  pub first_line : u.first_line ≤ 4194304

-- ---- refusals, in the order in which they come

-- a bad line outside the policies and the lanes
pub record IsMisheaded (with_lanes : Bool) (bytes line : List ℕ) : Type 0 where
  pub bad : Bad
  pub fault : update_text_at with_lanes bytes ≡ Err bad
  pub named : refusal_line (BadLine bad.line bad.code) ≡ Some line

-- no old policy
pub record HasNoOld (with_lanes : Bool) (bytes line : List ℕ) : Type 0 where
  pub text : UpdateTextOf
  pub headed : update_text_at with_lanes bytes ≡ Ok text
  pub fault : IsNoPolicy Old text.old line

-- an old policy, but no new one
pub record HasNoNew (with_lanes : Bool) (bytes line : List ℕ) : Type 0 where
  pub text : UpdateTextOf
  pub policy : PolicyOf
  pub headed : update_text_at with_lanes bytes ≡ Ok text
  pub old : Reads (Ok policy) text.old
  pub fault : IsNoPolicy New text.new line

-- an input of no two policies
abbrev pub IsNoUpdate : Bool → List ℕ → List ℕ → Type 0
IsNoUpdate with_lanes bytes line =
    IsMisheaded with_lanes bytes line ⊎ HasNoOld with_lanes bytes line ⊎ HasNoNew with_lanes bytes line

-- two policies, but no plan from one to the other
pub record HasNoPlan (u : UpdateOf) (line : List ℕ) : Type 0 where
  pub error : PlanError
  pub fault : plan_refusal u.old u.new ≡ Some error
  pub named : plan_line error ≡ Some line
