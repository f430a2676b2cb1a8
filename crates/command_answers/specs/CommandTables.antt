-- What each command answers: its texts, its refusals, and the inputs that it accepts. A line for each command; what
-- a line says stands in the command's own file.
use Rattle.std.specs.Prelude.{ℕ, Bool, true, false, List, Option, Result}
use Rattle.history_reports.specs.declared.runs.WhichReport.{WhichReport}
use Rattle.history_reports.specs.declared.runs.WhichReport.TheVariants as reports
use Rattle.command_answers.specs.declared.status.Status.{Status}
use Rattle.command_answers.specs.declared.subcommand.Subcommand.{Subcommand}
use Rattle.command_answers.specs.declared.subcommand.Subcommand.TheVariants.{Run, Compile, Plan, Live, Gen, Soak, Faults, Audit, Narrow, NarrowLive}
use Rattle.command_answers.specs.declared.inputs.update.WhichPlan.{WhichPlan}
use Rattle.command_answers.specs.declared.inputs.update.WhichPlan.TheVariants as plans
use Rattle.command_answers.specs.declared.answers.Answer.{Answer}
use Rattle.command_answers.specs.declared.answers.NoAnswer.{NoAnswer}
use Rattle.command_answers.specs.AnswerForms.{TextOf, ReportOf, GivesOr}
use Rattle.command_answers.specs.RunCommand.{IsReport, IsRefusal, StandsForScript}
use Rattle.command_answers.specs.CompileCommand.{IsCompiled, IsNotCompiled, CanBeCompiled}
use Rattle.command_answers.specs.PlanCommand.{IsPlanned, IsNotPlanned, CanBePlanned}
use Rattle.command_answers.specs.LiveCommand.{IsLiveReport, IsLiveRefusal, CanBeRunLive}
use Rattle.command_answers.specs.GenCommand.{IsGenerated}
use Rattle.command_answers.specs.SoakCommand.{IsSoaked}
use Rattle.command_answers.specs.FaultsCommand.{IsFaultsReport}
use Rattle.command_answers.specs.AuditCommand.{IsAudited, IsNotAudited, CanBeAudited}

-- whether the command reads its input
abbrev pub reads : Subcommand → Bool
reads Run = true
reads Compile = true
reads Plan = true
reads Live = true
reads (Gen number) = false
reads (Soak number) = false
reads Faults = true
reads Audit = true
reads Narrow = true
reads NarrowLive = true

-- For these bytes, or for none where it reads none, the command gives this text, the history that the text tells of,
-- and this status once it is written.
abbrev pub Gives : Subcommand → List ℕ → Status → Option (List ℕ) → List ℕ → Type 0
Gives Run bytes = ReportOf (IsReport bytes)
Gives Compile bytes = TextOf (IsCompiled bytes)
Gives Plan bytes = TextOf (IsPlanned plans.Whole bytes)
Gives Live bytes = ReportOf (IsLiveReport plans.Whole bytes)
Gives (Gen number) bytes = TextOf (IsGenerated number)
Gives (Soak number) bytes = ReportOf (IsSoaked number)
Gives Faults bytes = ReportOf (IsFaultsReport bytes)
Gives Audit bytes = IsAudited bytes
Gives Narrow bytes = TextOf (IsPlanned plans.Narrow bytes)
Gives NarrowLive bytes = ReportOf (IsLiveReport plans.Narrow bytes)

-- The command refuses these bytes with this line.
abbrev pub IsRefused : Subcommand → List ℕ → List ℕ → Type 0
IsRefused Run bytes line = IsRefusal bytes line
IsRefused Compile bytes line = IsNotCompiled bytes line
IsRefused Plan bytes line = IsNotPlanned bytes line
IsRefused Live bytes line = IsLiveRefusal plans.Whole bytes line
IsRefused (Gen number) bytes line = ⊥
IsRefused (Soak number) bytes line = ⊥
IsRefused Faults bytes line = IsRefusal bytes line
IsRefused Audit bytes line = IsNotAudited bytes line
IsRefused Narrow bytes line = IsNotPlanned bytes line
IsRefused NarrowLive bytes line = IsLiveRefusal plans.Narrow bytes line

-- The bytes have none of the command's faults.
abbrev pub IsAccepted : Subcommand → List ℕ → Type 0
IsAccepted Run bytes = StandsForScript bytes
IsAccepted Compile bytes = CanBeCompiled bytes
IsAccepted Plan bytes = CanBePlanned bytes
IsAccepted Live bytes = CanBeRunLive plans.Whole bytes
IsAccepted (Gen number) bytes = Unit {0}
IsAccepted (Soak number) bytes = Unit {0}
IsAccepted Faults bytes = StandsForScript bytes
IsAccepted Audit bytes = CanBeAudited bytes
IsAccepted Narrow bytes = CanBePlanned bytes
IsAccepted NarrowLive bytes = CanBeRunLive plans.Narrow bytes

-- what a command's function gives for these bytes
abbrev pub Answers : Subcommand → List ℕ → Result Answer NoAnswer → Type 0
Answers command bytes =
    GivesOr (λ a. Gives command bytes a.status a.history a.text.items) (IsRefused command bytes)

-- ---- commands that differ in one thing

abbrev pub plan_command : WhichPlan → Subcommand
plan_command plans.Whole = Plan
plan_command plans.Narrow = Narrow

abbrev pub live_command : WhichPlan → Subcommand
live_command plans.Whole = Live
live_command plans.Narrow = NarrowLive

abbrev pub run_command : WhichReport → Subcommand
run_command reports.Plain = Run
run_command reports.WithFaults = Faults
