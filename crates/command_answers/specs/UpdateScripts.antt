-- What the functions that make and play the script of an update give.
use Rattle.std.specs.Prelude.{◌≡◌, ◌≤◌, List, Vec, Result, Ok}
use Rattle.std.specs.declared.alloc.Global.{Global}
use Rattle.event_words.specs.Sections.{SectionOf}
use Rattle.script_reader.specs.Scripts.{ScriptOf, need_of}
use Rattle.script_reader.specs.LiveLanes.{lanes_at, AreLiveLanes}
use Rattle.command_answers.specs.declared.answers.Answer.{Answer}
use Rattle.command_answers.specs.declared.answers.NoAnswer.{NoAnswer}
use Rattle.command_answers.specs.AnswerForms.{ReportOf, GivesOr}
use Rattle.command_answers.specs.UpdateInputs.{UpdateOf}
use Rattle.command_answers.specs.PlansBeside.{script_beside, IsRunBeside, LanesAreBad, NeedsMoreEvents, IsNotPlayed}

-- the lanes of an update, or their line
abbrev pub IsLanesOr : UpdateOf → Result (Vec SectionOf Global) NoAnswer → Type 0
IsLanesOr u = GivesOr (λ lanes. lanes_at u.first_line u.lanes ≡ Ok lanes.items) (LanesAreBad u)

pub record IsAffordable (script given : ScriptOf) : Type 0 where
  pub is : given ≡ script
  pub few : need_of script ≤ 1048576

-- a script, or the line that says that it needs too many events
abbrev pub IsAffordableOr : ScriptOf → Result ScriptOf NoAnswer → Type 0
IsAffordableOr script = GivesOr (IsAffordable script) (NeedsMoreEvents script)

-- the script of an update with a plan
pub record IsScriptOfUpdate (plan : SectionOf) (u : UpdateOf) (script : ScriptOf) : Type 0 where
  pub lanes : List SectionOf
  pub lanes_are : lanes_at u.first_line u.lanes ≡ Ok lanes
  pub good : AreLiveLanes lanes
  pub is : script ≡ script_beside plan u lanes
  pub few : need_of (script_beside plan u lanes) ≤ 1048576

abbrev pub IsScriptOfUpdateOr : SectionOf → UpdateOf → Result ScriptOf NoAnswer → Type 0
IsScriptOfUpdateOr plan u = GivesOr (IsScriptOfUpdate plan u) (IsNotPlayed plan u)

-- the report of a run of the plan beside the lanes
abbrev pub IsPlayedOr : SectionOf → UpdateOf → Result Answer NoAnswer → Type 0
IsPlayedOr plan u =
    GivesOr (λ a. ReportOf (IsRunBeside plan u) a.status a.history a.text.items) (IsNotPlayed plan u)
