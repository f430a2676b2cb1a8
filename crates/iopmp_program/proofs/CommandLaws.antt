-- How a call of each command ends, in the command's words. All of it follows from what is said once for all commands.
use Rattle.std.proofs.Common.{◌≡◌, ℕ, ◌⊎◌, false, List, Option, Some, None, Ok, refl, subst, inl, inr}
use Rattle.std.specs.Prelude.{IsSomeAnd, ◌+◌, ◌++◌, codes}
use Rattle.std.specs.Fmt.{decimal}
use Rattle.script_reader.specs.Answers.{reading_of}
use Rattle.command_answers.specs.declared.status.Status.{Status}
use Rattle.command_answers.specs.declared.status.Status.TheVariants.{Done, Usage, BadInput, ReadFault, WriteFault, NoMemory, TooLong, NotLegal}
use Rattle.command_answers.specs.declared.subcommand.Subcommand.{Subcommand}
use Rattle.command_answers.specs.declared.subcommand.Subcommand.TheVariants.{Run, Compile, Plan, Live, Gen, Soak, Faults, Audit, Narrow, NarrowLive}
use Rattle.command_answers.specs.declared.inputs.update.WhichPlan.TheVariants as plans
use Rattle.command_answers.specs.RunCommand.{IsReport, IsRefusal}
use Rattle.command_answers.specs.CompileCommand.{IsCompiled, IsNotCompiled}
use Rattle.command_answers.specs.PlanCommand.{IsPlanned, IsNotPlanned}
use Rattle.command_answers.specs.LiveCommand.{IsLiveReport, IsLiveRefusal}
use Rattle.script_generator.specs.GeneratedScripts.{generated_script}
use Rattle.command_answers.specs.GenCommand.{generated_text}
use Rattle.command_answers.specs.SoakCommand.{IsSoaked}
use Rattle.script_generator.specs.SoakHistories.{IsSoak}
use Rattle.script_generator.specs.Summaries.{soak_text}
use Rattle.command_answers.specs.FaultsCommand.{IsFaultsReport}
use Rattle.audit_reader.specs.declared.answer.Audit.{Audit as Found}
use Rattle.audit_reader.specs.declared.answer.Audit.TheVariants.{Legal, BadAt}
use Rattle.audit_reader.specs.Audits.{Audits}
use Rattle.command_answers.specs.AuditCommand.{CanBeAudited, Says, IsNotAudited}
use Rattle.command_answers.specs.AnswerForms.{TextOf, ReportOf}
use Rattle.command_answers.specs.CommandTables.{reads, Gives, IsRefused}
use Rattle.iopmp_program.specs.CallEndings.{Change, WasRead, WasWritten, PrefixWritten, IsInput, IsText, EndsCommand}

-- ---- words

-- what is said of all that was read and all that was written
abbrev pub Answered : (List ℕ → List ℕ → Type 0) → Change → Change → Type 0
Answered Is source sink = (bytes : List ℕ) × (text : List ℕ) × WasRead source bytes × Is bytes text × WasWritten sink text

-- The work is done, and this text was written.
abbrev pub WritesText : Subcommand → (List ℕ → List ℕ → Type 0) → Type 0
WritesText command Is =
    (source sink : Change) (history : Option (List ℕ)) → EndsCommand command source sink Done history → (history ≡ None) × Answered Is source sink

-- The work is done: a history was made and told of, and its text was written.
abbrev pub WritesReport : Subcommand → (List ℕ → List ℕ → List ℕ → Type 0) → Type 0
WritesReport command Is =
    (source sink : Change) (history : Option (List ℕ)) → EndsCommand command source sink Done history → IsSomeAnd history (λ words. Answered (λ bytes text. Is bytes words text) source sink)

-- The input was refused with this line.
abbrev pub WritesRefusal : Subcommand → (List ℕ → List ℕ → Type 0) → Type 0
WritesRefusal command IsLine =
    (source sink : Change) (history : Option (List ℕ)) → EndsCommand command source sink BadInput history → (history ≡ None) × Answered IsLine source sink

-- of a command that reads its input
abbrev pub Reads : Subcommand → Type 0
Reads command = (source : Change) (bytes : List ℕ) → IsInput command source bytes → WasRead source bytes

writes_text : (command : Subcommand) (Is : List ℕ → List ℕ → Type 0) → Reads command
    → ((bytes : List ℕ) (history : Option (List ℕ)) (text : List ℕ) → Gives command bytes Done history text → TextOf (Is bytes) Done history text) → WritesText command Is
writes_text command Is read gives source sink history e =
    let given = gives e.1.0 history e.0 e.1.2 in
    (given.1, (e.1.0, e.0, read source e.1.0 e.1.1, given.2, e.2))

writes_report : (command : Subcommand) (Is : List ℕ → List ℕ → List ℕ → Type 0) → Reads command
    → ((bytes : List ℕ) (history : Option (List ℕ)) (text : List ℕ) → Gives command bytes Done history text → ReportOf (Is bytes) Done history text) → WritesReport command Is
writes_report command Is read gives source sink None e = absurd (gives e.1.0 None e.0 e.1.2).1
writes_report command Is read gives source sink (Some words) e = (e.1.0, e.0, read source e.1.0 e.1.1, (gives e.1.0 (Some words) e.0 e.1.2).1, e.2)

writes_refusal : (command : Subcommand) (IsLine : List ℕ → List ℕ → Type 0) → Reads command → ((bytes line : List ℕ) → IsRefused command bytes line → IsLine bytes line) → WritesRefusal command IsLine
writes_refusal command IsLine read refused source sink history e =
    (e.0, (e.1.1.0, e.1.0, read source e.1.1.0 e.1.1.1, refused e.1.1.0 e.1.0 e.1.1.2, e.1.2))

-- ---- what each command writes

-- The headline: a legal history of the script was made and told of, and its report was written.
pub run_done : WritesReport Run IsReport
run_done = writes_report Run IsReport (λ source bytes read. read) (λ bytes history text given. given)

-- The report without its last line was written, and what the history's readings of the windows show and leave.
pub faults_done : WritesReport Faults IsFaultsReport
faults_done = writes_report Faults IsFaultsReport (λ source bytes read. read) (λ bytes history text given. given)

-- A legal history of the update's script was made and told of, each of its verdicts is the old policy's or the new
-- one's by its place, and its report was written.
pub live_done : WritesReport Live (IsLiveReport plans.Whole)
live_done = writes_report Live (IsLiveReport plans.Whole) (λ source bytes read. read) (λ bytes history text given. given)

-- So with the narrow plan's script; an unaffected requester's submissions pass in it, and each verdict is by the
-- policies.
pub narrow_live_done : WritesReport NarrowLive (IsLiveReport plans.Narrow)
narrow_live_done = writes_report NarrowLive (IsLiveReport plans.Narrow) (λ source bytes read. read) (λ bytes history text given. given)

pub compile_done : WritesText Compile IsCompiled
compile_done = writes_text Compile IsCompiled (λ source bytes read. read) (λ bytes history text given. given)

pub plan_done : WritesText Plan (IsPlanned plans.Whole)
plan_done = writes_text Plan (IsPlanned plans.Whole) (λ source bytes read. read) (λ bytes history text given. given)

pub narrow_done : WritesText Narrow (IsPlanned plans.Narrow)
narrow_done = writes_text Narrow (IsPlanned plans.Narrow) (λ source bytes read. read) (λ bytes history text given. given)

-- ---- with which line each command refuses its input

pub run_refused : WritesRefusal Run IsRefusal
run_refused = writes_refusal Run IsRefusal (λ source bytes read. read) (λ bytes line refused. refused)

pub faults_refused : WritesRefusal Faults IsRefusal
faults_refused = writes_refusal Faults IsRefusal (λ source bytes read. read) (λ bytes line refused. refused)

pub compile_refused : WritesRefusal Compile IsNotCompiled
compile_refused = writes_refusal Compile IsNotCompiled (λ source bytes read. read) (λ bytes line refused. refused)

pub plan_refused : WritesRefusal Plan IsNotPlanned
plan_refused = writes_refusal Plan IsNotPlanned (λ source bytes read. read) (λ bytes line refused. refused)

pub narrow_refused : WritesRefusal Narrow IsNotPlanned
narrow_refused = writes_refusal Narrow IsNotPlanned (λ source bytes read. read) (λ bytes line refused. refused)

pub live_refused : WritesRefusal Live (IsLiveRefusal plans.Whole)
live_refused = writes_refusal Live (IsLiveRefusal plans.Whole) (λ source bytes read. read) (λ bytes line refused. refused)

pub narrow_live_refused : WritesRefusal NarrowLive (IsLiveRefusal plans.Narrow)
narrow_live_refused = writes_refusal NarrowLive (IsLiveRefusal plans.Narrow) (λ source bytes read. read) (λ bytes line refused. refused)

pub audit_refused : WritesRefusal Audit IsNotAudited
audit_refused = writes_refusal Audit IsNotAudited (λ source bytes read. read) (λ bytes line refused. refused)

-- ---- audit

-- the input's report was found legal: the work is done exactly then
pub audit_done : (source sink : Change) (history : Option (List ℕ)) → EndsCommand Audit source sink Done history
    → (history ≡ None) × Answered (λ bytes text. (input : CanBeAudited bytes) × Audits input.script input.parts.report Legal × (text ≡ codes "yes\n")) source sink
audit_done source sink history e = by e.1.2.said.found e.1.2.said.true_of e.1.2.said.says
  where
    bytes : List ℕ
    bytes = e.1.0

    input : CanBeAudited bytes
    input = e.1.2.input

    by : (found : Found) → Audits input.script input.parts.report found → Says input.parts.heading found Done history e.0
        → (history ≡ None) × Answered (λ bytes text. (input : CanBeAudited bytes) × Audits input.script input.parts.report Legal × (text ≡ codes "yes\n")) source sink
    by Legal t s = (s.1, (bytes, e.0, e.1.1, (input, t, s.2), e.2))
    by (BadAt line) t s = let status = s.0 in absurd cc

-- its first bad line was named, counted over the whole input
pub audit_not_legal : (source sink : Change) (history : Option (List ℕ)) → EndsCommand Audit source sink NotLegal history
    → (history ≡ None) × Answered (λ bytes text. (input : CanBeAudited bytes) × (line : ℕ) × Audits input.script input.parts.report (BadAt line)
    × (text ≡ codes "no " ++ (decimal (input.parts.heading + line) ++ codes "\n"))) source sink
audit_not_legal source sink history e = by e.1.2.said.found e.1.2.said.true_of e.1.2.said.says
  where
    bytes : List ℕ
    bytes = e.1.0

    input : CanBeAudited bytes
    input = e.1.2.input

    by : (found : Found) → Audits input.script input.parts.report found → Says input.parts.heading found NotLegal history e.0
        → (history ≡ None) × Answered (λ bytes text. (input : CanBeAudited bytes) × (line : ℕ) × Audits input.script input.parts.report (BadAt line)
        × (text ≡ codes "no " ++ (decimal (input.parts.heading + line) ++ codes "\n"))) source sink
    by Legal t s = let status = s.0 in absurd cc
    by (BadAt line) t s = (s.1, (bytes, e.0, e.1.1, (input, line, t, s.2), e.2))

-- ---- gen

-- the text was written, and is read as the script of the number
pub gen_done : (number : ℕ) (source sink : Change) (history : Option (List ℕ)) → EndsCommand (Gen number) source sink Done history
    → (history ≡ None) × WasWritten sink (generated_text number) × (reading_of (generated_text number) ≡ Ok (generated_script number))
gen_done number source sink history e =
    let printed = e.1.2.2.printed in
    (e.1.2.1, subst (WasWritten sink) printed e.2, subst (λ t. reading_of t ≡ Ok (generated_script number)) printed e.1.2.2.read_back)

-- where the sink failed, it is this text of which a prefix was written
pub gen_stopped : (number : ℕ) (source sink : Change) (history : Option (List ℕ)) → EndsCommand (Gen number) source sink WriteFault history → PrefixWritten sink (generated_text number)
gen_stopped number source sink history e = by e.2.1
  where
    by : IsText (Gen number) source e.2.0 → PrefixWritten sink (generated_text number)
    by (inl given) = subst (PrefixWritten sink) given.2.2.2.printed e.2.2
    by (inr (inl fault)) = absurd fault.2
    by (inr (inr long)) = let asked = long.asked in absurd cc

-- ---- soak

-- A legal history of the generated script was made and told of, and the summary of its verdicts was written, which is
-- the same at each run.
pub soak_done : (number : ℕ) (source sink : Change) (history : Option (List ℕ)) → EndsCommand (Soak number) source sink Done history
    → IsSomeAnd history (λ words. IsSoak number words × WasWritten sink (soak_text number))
soak_done number source sink None e = absurd e.1.2.1
soak_done number source sink (Some words) e = (e.1.2.1.soak, subst (WasWritten sink) e.1.2.1.printed e.2)

pub soak_stopped : (number : ℕ) (source sink : Change) (history : Option (List ℕ)) → EndsCommand (Soak number) source sink WriteFault history → PrefixWritten sink (soak_text number)
soak_stopped number source sink history e = by e.2.1
  where
    told : (told_of : Option (List ℕ)) → IsSomeAnd told_of (λ words. IsSoaked number words e.2.0) → e.2.0 ≡ soak_text number
    told None h = absurd h
    told (Some words) h = h.printed

    by : IsText (Soak number) source e.2.0 → PrefixWritten sink (soak_text number)
    by (inl given) = subst (PrefixWritten sink) (told given.1 given.2.2.1) e.2.2
    by (inr (inl fault)) = absurd fault.2
    by (inr (inr long)) = let asked = long.asked in absurd cc

-- ---- gen and soak read nothing, so they have no input's faults

reads_nothing : (command : Subcommand) (source sink : Change) (status : Status) (history : Option (List ℕ)) → reads command ≡ false → ((bytes line : List ℕ) → IsRefused command bytes line → ⊥)
    → ((bytes : List ℕ) (told : Option (List ℕ)) (text : List ℕ) → Gives command bytes NotLegal told text → ⊥) → EndsCommand command source sink status history
    → (status ≡ Done) ⊎ (status ≡ WriteFault) ⊎ (status ≡ NoMemory)
reads_nothing command source sink Done history none never legal e = inl refl
reads_nothing command source sink WriteFault history none never legal e = inr (inl refl)
reads_nothing command source sink NoMemory history none never legal e = inr (inr refl)
reads_nothing command source sink Usage history none never legal e = absurd e
reads_nothing command source sink BadInput history none never legal e = absurd (never e.1.1.0 e.1.0 e.1.1.2)
reads_nothing command source sink ReadFault history none never legal e = let asked = e.1 in absurd cc
reads_nothing command source sink TooLong history none never legal e = let asked = e.1.1.asked in absurd cc
reads_nothing command source sink NotLegal history none never legal e = absurd (legal e.1.0 history e.0 e.1.2)

pub gen_reads_nothing : (number : ℕ) (source sink : Change) (status : Status) (history : Option (List ℕ)) → EndsCommand (Gen number) source sink status history
    → (status ≡ Done) ⊎ (status ≡ WriteFault) ⊎ (status ≡ NoMemory)
gen_reads_nothing number source sink status history e =
    reads_nothing (Gen number) source sink status history refl (λ bytes line never. never) (λ bytes told text given. let done = given.0 in absurd cc) e

pub soak_reads_nothing : (number : ℕ) (source sink : Change) (status : Status) (history : Option (List ℕ)) → EndsCommand (Soak number) source sink status history
    → (status ≡ Done) ⊎ (status ≡ WriteFault) ⊎ (status ≡ NoMemory)
soak_reads_nothing number source sink status history e =
    reads_nothing (Soak number) source sink status history refl (λ bytes line never. never) (λ bytes told text given. let done = given.0 in absurd cc) e
