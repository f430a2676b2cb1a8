-- An update's plan that is played beside the update's lanes: the script, its report, and the line of an update that
-- has none. The plan may be any section that takes a unit from one policy to the other.
use Rattle.std.specs.Prelude.{◌≡◌, ◌⊎◌, ℕ, ◌<◌, ◌≤◌, List, [], ◌∷◌, None, Some, Ok, Err}
use Rattle.std.specs.List.{AllByRecursion}
use Rattle.event_words.specs.Sections.{SectionOf, IsValidSection, NamesUnits}
use Rattle.script_reader.specs.declared.script.ScriptError.TheVariants.{BadLine, TooManyEvents}
use Rattle.script_reader.specs.Scripts.{ScriptOf, Bad, need_of}
use Rattle.script_reader.specs.LiveLanes.{lanes_at, AreLiveLanes}
use Rattle.unit_core.specs.Histories.{History, history_of}
use Rattle.policy_compiler.specs.Policies.{PolicyOf}
use Rattle.policy_compiler.specs.Needs.{need_refusal}
use Rattle.policy_compiler.specs.Images.{image_of}
use Rattle.policy_compiler.specs.Commands.{image_section}
use Rattle.update_planner.specs.Refusals.{plan_refusal}
use Rattle.history_reports.specs.ReportedRuns.{IsRun}
use Rattle.command_answers.specs.ScriptLines.{refusal_line}
use Rattle.command_answers.specs.UpdateInputs.{UpdateOf, HasNoPlan}

-- One unit of the policies' shape, the old image's writes as the boot section, a plan as lane 1, and the given lanes
-- after it.
abbrev pub script_beside : SectionOf → UpdateOf → List SectionOf → ScriptOf
script_beside plan u lanes =
    record { shapes = u.old.shape ∷ []; boot = image_section (image_of u.old); lanes = plan ∷ lanes }

-- A plan that may be played: the old policy has an image, and the section is valid and names unit 0 alone.
pub record IsPlayablePlan (u : UpdateOf) (plan : SectionOf) : Type 0 where
  pub plans : plan_refusal u.old u.new ≡ None
  pub old_fits : need_refusal u.old ≡ None
  pub valid : IsValidSection plan
  pub units : AllByRecursion (NamesUnits 1) plan.commands

-- ---- reports

-- There is a plan, and these are the lanes beside it.
pub record HasLanes (u : UpdateOf) (lanes : List SectionOf) : Type 0 where
  pub plans : plan_refusal u.old u.new ≡ None
  pub lanes_are : lanes_at u.first_line u.lanes ≡ Ok lanes

-- The history and the report of a run of the plan beside the lanes, which write nothing.
pub record IsRunBeside (plan : SectionOf) (u : UpdateOf) (history text : List ℕ) : Type 0 where
  pub lanes : List SectionOf
  pub has : HasLanes u lanes
  pub good : AreLiveLanes lanes
  pub few : need_of (script_beside plan u lanes) ≤ 1048576
  pub run : IsRun (script_beside plan u lanes) history text

-- The report of such a history, of which the plan's law says this.
pub record IsUpdateReport (Keeps : PolicyOf → PolicyOf → History → Type 0) (plan : SectionOf) (history text : List ℕ) (u : UpdateOf) : Type 0 where
  pub lanes : List SectionOf
  pub has : HasLanes u lanes
  pub few : need_of (script_beside plan u lanes) ≤ 1048576
  pub run : IsRun (script_beside plan u lanes) history text
  pub policies : Keeps u.old u.new (history_of (u.old.shape ∷ []) history)

-- ---- refusals

-- the lanes have a bad line
pub record LanesAreBad (u : UpdateOf) (line : List ℕ) : Type 0 where
  pub bad : Bad
  pub fault : lanes_at u.first_line u.lanes ≡ Err bad
  pub named : refusal_line (BadLine bad.line bad.code) ≡ Some line

-- a plan, but a bad line among the lanes
pub record HasBadLane (u : UpdateOf) (line : List ℕ) : Type 0 where
  pub plans : plan_refusal u.old u.new ≡ None
  pub lanes : LanesAreBad u line

-- a script that may need more events than there are
pub record NeedsMoreEvents (script : ScriptOf) (line : List ℕ) : Type 0 where
  pub many : 1048576 < need_of script
  pub named : refusal_line (TooManyEvents (need_of script) 1048576) ≡ Some line

-- a plan and lanes, but too many events
pub record NeedsTooMany (plan : SectionOf) (u : UpdateOf) (line : List ℕ) : Type 0 where
  pub lanes : List SectionOf
  pub has : HasLanes u lanes
  pub needs : NeedsMoreEvents (script_beside plan u lanes) line

-- a plan that can't be played, in the order in which the causes come
abbrev pub IsNotPlayed : SectionOf → UpdateOf → List ℕ → Type 0
IsNotPlayed plan u line = HasBadLane u line ⊎ NeedsTooMany plan u line

-- or no plan
abbrev pub IsUpdateLine : SectionOf → UpdateOf → List ℕ → Type 0
IsUpdateLine plan u line = HasNoPlan u line ⊎ IsNotPlayed plan u line

-- lanes beside a plan, few enough
pub record CanRun (plan : SectionOf) (u : UpdateOf) : Type 0 where
  pub lanes : List SectionOf
  pub has : HasLanes u lanes
  pub few : need_of (script_beside plan u lanes) ≤ 1048576
