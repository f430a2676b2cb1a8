-- What the parts of a command give is what the command answers.
use Rattle.std.proofs.Common.{◌≡◌, ℕ, Bool, true, false, List, [], ◌∷◌, Option, Some, None, Vec, Result, Ok, Err, sym, ap, subst, inl, inr}
use Rattle.std.specs.Prelude.{IsSomeAnd}
use Rattle.std.specs.String.{string_bytes}
use Rattle.std.specs.declared.alloc.Global.{Global}
use Rattle.script_reader.specs.Scripts.{ScriptOf}
use Rattle.script_reader.specs.Answers.{reading_of}
use Rattle.policy_compiler.specs.Policies.{PolicyOf}
use Rattle.policy_compiler.specs.Gives.{Reads}
use Rattle.policy_compiler.specs.Images.{image_of}
use Rattle.update_planner.specs.Plans.{plan_commands}
use Rattle.update_planner.specs.Gives.{section_with}
use Rattle.event_words.specs.declared.section.Command.{Command}
use Rattle.event_words.specs.Sections.{SectionOf}
use Rattle.unit_core.specs.Histories.{History, history_of, IsLegalHistory}
use Rattle.history_laws.specs.Live.{KeepsPolicies, LawLive, IsUpdateHistory}
use Rattle.history_reports.specs.declared.runs.WhichReport.{WhichReport}
use Rattle.history_reports.specs.declared.runs.WhichReport.TheVariants.{Plain, WithFaults}
use Rattle.history_reports.specs.ReportedRuns.{IsRun}
use Rattle.history_reports.specs.FaultReports.{IsFaultsRun}
use Rattle.history_reports.specs.WantedReports.{IsRunOf}
use Rattle.command_answers.specs.declared.status.Status.{Status}
use Rattle.command_answers.specs.declared.status.Status.TheVariants.{Done}
use Rattle.command_answers.specs.declared.answers.Answer.{Answer}
use Rattle.command_answers.specs.declared.answers.NoAnswer.{NoAnswer}
use Rattle.command_answers.specs.declared.answers.NoAnswer.TheVariants.{Refused, NoMemory}
use Rattle.command_answers.specs.declared.subcommand.Subcommand.TheVariants.{Compile, Audit}
use Rattle.command_answers.specs.declared.refusals.policy_lines.WhichPolicy.TheVariants.{Only}
use Rattle.command_answers.specs.declared.inputs.update.WhichPlan.{WhichPlan}
use Rattle.command_answers.specs.declared.inputs.update.WhichPlan.TheVariants.{Whole}
use Rattle.command_answers.specs.declared.inputs.update.WhichPlan.TheVariants as plans
use Rattle.command_answers.specs.AnswerForms.{TextOf, ReportOf, GivesOr}
use Rattle.script_reader.specs.ReportTexts.{ReportTextOf, report_text_at}
use Rattle.command_answers.specs.RunCommand.{IsReport, IsRefusal}
use Rattle.command_answers.specs.FaultsCommand.{IsFaultsReport}
use Rattle.command_answers.specs.AuditCommand.{CanBeAudited, IsSaid, HasNoReport}
use Rattle.command_answers.specs.CompileCommand.{IsImageText, NeedsMore}
use Rattle.command_answers.specs.UpdateInputs.{UpdateOf, IsUpdate, IsReadable, IsNoUpdate, HasNoPlan}
use Rattle.command_answers.specs.UpdatePlans.{plan_section, narrow_section, wanted_section, Keeps}
use Rattle.command_answers.specs.PlanCommand.{IsPlanned, IsPlanText, Plans}
use Rattle.command_answers.specs.PlansBeside.{script_beside, IsRunBeside, IsUpdateReport, IsUpdateLine}
use Rattle.command_answers.specs.LiveCommand.{IsLiveReport}
use Rattle.narrow_plans.specs.NarrowPlans.{narrow_commands}
use Rattle.narrow_plans.specs.Laws.{LawNarrow, IsNarrow}
use Rattle.command_answers.specs.UpdateScripts.{IsPlayedOr}
use Rattle.command_answers.specs.CommandTables.{Answers, plan_command, live_command, run_command}
use Rattle.command_answers.proofs.UpdateRefusals.{IsPolicyOr}

-- ---- reports

abbrev pub told_answer : List ℕ → Vec ℕ Global → Answer
told_answer history text = record { status = Done; history = Some history; text = text }

-- an answer that tells of a history
pub told : (Is : List ℕ → List ℕ → Type 0) (a : Answer) (history : List ℕ) (text : Vec ℕ Global) → a ≡ told_answer history text → Is history text.items → ReportOf Is a.status a.history a.text.items
told Is a history text e h = (ap (λ (x : Answer). x.status) e, subst (λ (x : Answer). IsSomeAnd x.history (λ words. Is words x.text.items)) (sym e) h)

pub report_as : (P Q : List ℕ → List ℕ → Type 0) (status : Status) (history : Option (List ℕ)) (text : List ℕ) → ((words : List ℕ) → P words text → Q words text)
    → ReportOf P status history text → ReportOf Q status history text
report_as P Q status None text f h = absurd h.1
report_as P Q status (Some words) text f h = (h.0, f words h.1)

abbrev pub text_alone : Vec ℕ Global → Answer
text_alone text = record { status = Done; history = None; text = text }

-- an answer that is a text alone
pub printed : (Is : List ℕ → Type 0) (a : Answer) (text : Vec ℕ Global) → a ≡ text_alone text → Is text.items → TextOf Is a.status a.history a.text.items
printed Is a text e h = (ap (λ (x : Answer). x.status) e, ap (λ (x : Answer). x.history) e, subst (λ (x : Answer). Is x.text.items) (sym e) h)

-- ---- run and faults

pub run_refused : (which : WhichReport) (bytes : List ℕ) (e : NoAnswer) → (let r : Result ScriptOf NoAnswer = Err e in GivesOr (λ s. reading_of bytes ≡ Ok s) (IsRefusal bytes) r) → Answers (run_command which) bytes (Err e)
run_refused Plain bytes (Refused line) h = h
run_refused WithFaults bytes (Refused line) h = h
run_refused which bytes NoMemory h = tt

pub run_reported : (which : WhichReport) (bytes : List ℕ) (script : ScriptOf) (a : Answer) → reading_of bytes ≡ Ok script → ReportOf (IsRunOf which script) a.status a.history a.text.items → Answers (run_command which) bytes (Ok a)
run_reported Plain bytes script a is h = report_as (IsRun script) (IsReport bytes) a.status a.history a.text.items (λ words run. record { script = script; stands_for = is; run = run }) h
run_reported WithFaults bytes script a is h =
    report_as (IsFaultsRun script) (IsFaultsReport bytes) a.status a.history a.text.items (λ words run. record { script = script; stands_for = is; run = run }) h

-- ---- audit

pub no_parts : (bytes : List ℕ) (e : NoAnswer) → (let r : Result ReportTextOf NoAnswer = Err e in GivesOr (λ t. report_text_at bytes ≡ Ok t) (HasNoReport bytes) r) → Answers Audit bytes (Err e)
no_parts bytes (Refused line) h = inl h
no_parts bytes NoMemory h = tt

pub no_script : (bytes : List ℕ) (parts : ReportTextOf) (e : NoAnswer) → report_text_at bytes ≡ Ok parts
    → (let r : Result ScriptOf NoAnswer = Err e in GivesOr (λ s. reading_of parts.script ≡ Ok s) (IsRefusal parts.script) r) → Answers Audit bytes (Err e)
no_script bytes parts (Refused line) p h = inr (record { parts = parts; error = h.error; parted = p; refused = h.refused; named = h.named })
no_script bytes parts NoMemory p h = tt

pub audit_said : (bytes : List ℕ) (input : CanBeAudited bytes) (r : Result Answer NoAnswer)
    → GivesOr (λ a. IsSaid input.script input.parts.heading input.parts.report a.status a.history a.text.items) (λ line. ⊥) r → Answers Audit bytes r
audit_said bytes input (Ok a) h = record { input = input; said = h }
audit_said bytes input (Err (Refused line)) h = absurd h
audit_said bytes input (Err NoMemory) h = tt

-- ---- compile

pub no_policy_refused : (bytes : List ℕ) (e : NoAnswer) → IsPolicyOr Only bytes (Err e) → Answers Compile bytes (Err e)
no_policy_refused bytes (Refused line) h = inl h
no_policy_refused bytes NoMemory h = tt

pub image_refused : (bytes : List ℕ) (p : PolicyOf) (e : NoAnswer) → Reads (Ok p) bytes
    → (let r : Result (Vec ℕ Global) NoAnswer = Err e in GivesOr (λ text. IsImageText p text.items) (NeedsMore p) r) → Answers Compile bytes (Err e)
image_refused bytes p (Refused line) is h = inr (record { policy = p; stands_for = is; is = h })
image_refused bytes p NoMemory is h = tt

-- ---- plan and narrow

abbrev pub IsUpdateOr : Bool → List ℕ → Result UpdateOf NoAnswer → Type 0
IsUpdateOr with_lanes bytes = GivesOr (IsUpdate with_lanes bytes) (IsNoUpdate with_lanes bytes)

pub no_update_planned : (which : WhichPlan) (bytes : List ℕ) (e : NoAnswer) → IsUpdateOr false bytes (Err e) → Answers (plan_command which) bytes (Err e)
no_update_planned Whole bytes (Refused line) h = inl h
no_update_planned plans.Narrow bytes (Refused line) h = inl h
no_update_planned which bytes NoMemory h = tt

abbrev pub IsPlanTextOr : WhichPlan → UpdateOf → Result (Vec ℕ Global) NoAnswer → Type 0
IsPlanTextOr which u = GivesOr (λ text. IsPlanText (wanted_section which u) u text.items) (HasNoPlan u)

pub no_plan_refused : (which : WhichPlan) (bytes : List ℕ) (u : UpdateOf) (e : NoAnswer) → IsUpdate false bytes u → IsPlanTextOr which u (Err e) → Answers (plan_command which) bytes (Err e)
no_plan_refused Whole bytes u (Refused line) is h = inr (record { update = u; stands_for = is; is = h })
no_plan_refused plans.Narrow bytes u (Refused line) is h = inr (record { update = u; stands_for = is; is = h })
no_plan_refused which bytes u NoMemory is h = tt

pub plan_printed : (which : WhichPlan) (bytes : List ℕ) (u : UpdateOf) (a : Answer) (text : Vec ℕ Global) → IsUpdate false bytes u → a ≡ text_alone text → IsPlanText (wanted_section which u) u text.items → Answers (plan_command which) bytes (Ok a)
plan_printed Whole bytes u a text is e h = printed (IsPlanned Whole bytes) a text e (record { update = u; stands_for = is; is = h })
plan_printed plans.Narrow bytes u a text is e h = printed (IsPlanned plans.Narrow bytes) a text e (record { update = u; stands_for = is; is = h })

-- ---- live and narrow live

-- a run of a plan beside the lanes is one of the plan that is wanted
legal_beside : (u : UpdateOf) (plan wanted : SectionOf) (history text : List ℕ) → plan ≡ wanted → (run : IsRunBeside plan u history text) → (let s : ScriptOf = script_beside wanted u run.lanes in IsLegalHistory s.shapes s.boot s.lanes history)
legal_beside u plan wanted history text is run =
    let r : IsRun (script_beside wanted u run.lanes) history text = subst (λ s. IsRun (script_beside s u run.lanes) history text) is run.run in
    r.legal

-- so its history is one of an update by the commands of that plan
update_history : (commands : List Command) (u : UpdateOf) (plan : SectionOf) (history text : List ℕ) → IsReadable u → Plans (section_with commands) u plan
    → (run : IsRunBeside plan u history text) → IsUpdateHistory commands u.old u.new run.lanes history
update_history commands u plan history text good p run =
    let legal = legal_beside u plan (section_with commands) history text p.is run in
    record { old_policy = good.old; new_policy = good.new; shapes = p.shapes; old_fits = p.old_fits; new_fits = p.new_fits; quiet = run.good.write_nothing; legal = legal }

-- what holds of each history of a plan holds of one that was reported
pub beside_reported : (Law : PolicyOf → PolicyOf → History → Type 0) (u : UpdateOf) (plan wanted : SectionOf) (history text : List ℕ) → plan ≡ wanted → (run : IsRunBeside plan u history text) → Law u.old u.new (history_of (u.old.shape ∷ []) history)
    → IsUpdateReport Law wanted history text u
beside_reported Law u plan wanted history text is run keeps =
    subst (λ s. IsUpdateReport Law s history text u) is (record { lanes = run.lanes; has = run.has; few = run.few; run = run.run; policies = keeps })

abbrev pub UpdateAnswers : (PolicyOf → PolicyOf → History → Type 0) → SectionOf → UpdateOf → Result Answer NoAnswer → Type 0
UpdateAnswers Law plan u = GivesOr (λ a. ReportOf (λ history text. IsUpdateReport Law plan history text u) a.status a.history a.text.items) (IsUpdateLine plan u)

-- so each of its answers
pub beside_answers : (Law : PolicyOf → PolicyOf → History → Type 0) (u : UpdateOf) (plan wanted : SectionOf) (r : Result Answer NoAnswer) → plan ≡ wanted
    → ((history text : List ℕ) → IsRunBeside plan u history text → Law u.old u.new (history_of (u.old.shape ∷ []) history)) → IsPlayedOr plan u r → UpdateAnswers Law wanted u r
beside_answers Law u plan wanted (Ok a) is keeps h =
    report_as (IsRunBeside plan u) (λ history text. IsUpdateReport Law wanted history text u) a.status a.history a.text.items
    (λ words run. beside_reported Law u plan wanted words a.text.items is run (keeps words a.text.items run)) h
beside_answers Law u plan wanted (Err (Refused line)) is keeps h = subst (λ s. IsUpdateLine s u (string_bytes line)) is (inr h)
beside_answers Law u plan wanted (Err NoMemory) is keeps h = tt

pub update_played : LawLive → LawNarrow → (which : WhichPlan) (u : UpdateOf) (plan : SectionOf) (r : Result Answer NoAnswer) → IsReadable u → Plans (wanted_section which u) u plan → IsPlayedOr plan u r → UpdateAnswers (Keeps which) (wanted_section which u) u r
update_played live narrow Whole u plan r good p h =
    beside_answers KeepsPolicies u plan (plan_section u) r p.is (λ history text run. live u.old u.new u.polls run.lanes history (update_history (plan_commands (image_of u.old) (image_of u.new) u.polls) u plan history text good p run)) h
update_played live narrow plans.Narrow u plan r good p h =
    beside_answers IsNarrow u plan (narrow_section u) r p.is (λ history text run. narrow u.old u.new u.polls run.lanes history (update_history (narrow_commands (image_of u.old) (image_of u.new) u.polls) u plan history text good p run)) h

pub no_update_live : (which : WhichPlan) (bytes : List ℕ) (e : NoAnswer) → IsUpdateOr true bytes (Err e) → Answers (live_command which) bytes (Err e)
no_update_live Whole bytes (Refused line) h = inl h
no_update_live plans.Narrow bytes (Refused line) h = inl h
no_update_live which bytes NoMemory h = tt

live_told : (which : WhichPlan) (bytes : List ℕ) (u : UpdateOf) (a : Answer) → IsUpdate true bytes u → UpdateAnswers (Keeps which) (wanted_section which u) u (Ok a) → ReportOf (IsLiveReport which bytes) a.status a.history a.text.items
live_told which bytes u a is h =
    report_as (λ history text. IsUpdateReport (Keeps which) (wanted_section which u) history text u) (IsLiveReport which bytes) a.status a.history a.text.items (λ words report. record { update = u; stands_for = is; is = report }) h

pub live_answers : (which : WhichPlan) (bytes : List ℕ) (u : UpdateOf) (r : Result Answer NoAnswer) → IsUpdate true bytes u → UpdateAnswers (Keeps which) (wanted_section which u) u r → Answers (live_command which) bytes r
live_answers Whole bytes u (Ok a) is h = live_told Whole bytes u a is h
live_answers plans.Narrow bytes u (Ok a) is h = live_told plans.Narrow bytes u a is h
live_answers Whole bytes u (Err (Refused line)) is h = inr (record { update = u; stands_for = is; is = h })
live_answers plans.Narrow bytes u (Err (Refused line)) is h = inr (record { update = u; stands_for = is; is = h })
live_answers which bytes u (Err NoMemory) is h = tt
