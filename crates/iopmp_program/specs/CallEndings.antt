-- How a call of the program ends: each status with its cause, what was read, and what was written. All of it is said
-- once for every command; what a command answers stands in `CommandTables`.
use Rattle.std.specs.Prelude.{◌≡◌, ◌⊎◌, ℕ, ◌<◌, ◌≤◌, Bool, true, false, List, [], length, IfSome, Some, None}
use Rattle.std.specs.declared.option.Option.{Option}
use Rattle.std.specs.Io.KnownBytes.{Appends, IsAtEnd}
use Rattle.edge_io.specs.Faults.{Rose}
use Rattle.edge_io.specs.Streams.{TakesFront, AppendsPrefix}
use Rattle.command_answers.specs.declared.status.Status.{Status}
use Rattle.command_answers.specs.declared.status.Status.TheVariants.{Done, Usage, BadInput, ReadFault, WriteFault, NoMemory, TooLong, NotLegal}
use Rattle.command_answers.specs.declared.subcommand.Subcommand.{Subcommand}
use Rattle.command_answers.specs.declared.subcommand.Subcommand.TheVariants.{Audit}
use Rattle.iopmp_program.specs.FaultLines.{usage_line, too_long_line}
use Rattle.command_answers.specs.CommandTables.{reads, Gives, IsRefused, IsAccepted}

-- ---- what a stream shows of a call

-- the bytes that it tells, and its count of faults, before and after the call
pub record Change : Type 0 where
  pub before : Option (List ℕ)
  pub after : Option (List ℕ)
  pub faults_before : ℕ
  pub faults_after : ℕ

-- by what the stream's trait tells of its two states
abbrev pub change : {T : Type 0} → (T → Option (List ℕ)) → (T → ℕ) → T → T → Change
change bytes faults old new =
    record { before = bytes old; after = bytes new; faults_before = faults old; faults_after = faults new }

abbrev pub Failed : Change → Type 0
Failed stream = Rose stream.faults_before stream.faults_after

-- the whole text was written
abbrev pub WasWritten : Change → List ℕ → Type 0
WasWritten sink text = Appends sink.before sink.after text

-- a prefix of it was
abbrev pub PrefixWritten : Change → List ℕ → Type 0
PrefixWritten sink text = AppendsPrefix sink.before sink.after text

-- ---- what was read

-- The bytes are all that the source had left, at most 4194304.
pub record WasRead (source : Change) (bytes : List ℕ) : Type 0 where
  pub whole : IfSome source.before (λ left. bytes ≡ left)
  pub end : IsAtEnd source.after
  pub few : length bytes ≤ 4194304

abbrev pub IsInputIf : Bool → Change → List ℕ → Type 0
IsInputIf true source bytes = WasRead source bytes
IsInputIf false source bytes = bytes ≡ []

-- what a command answers for: the bytes that were read, or none where it reads none
abbrev pub IsInput : Subcommand → Change → List ℕ → Type 0
IsInput command source bytes = IsInputIf (reads command) source bytes

-- not more than 4194304 bytes were given, from the front of what was left
abbrev pub GaveFew : Change → Type 0
GaveFew source = TakesFront source.before source.after (λ given. length given ≤ 4194304)

-- more were
abbrev pub GaveMore : Change → Type 0
GaveMore source = TakesFront source.before source.after (λ given. 4194304 < length given)

-- ---- the texts that a command may write

-- the input gives this text with this history and status
abbrev pub IsGiven : Subcommand → Change → Status → Option (List ℕ) → List ℕ → Type 0
IsGiven command source status history text =
    (bytes : List ℕ) × IsInput command source bytes × Gives command bytes status history text

-- the line of an input that is refused
abbrev pub IsFault : Subcommand → Change → List ℕ → Type 0
IsFault command source line =
    (bytes : List ℕ) × IsInput command source bytes × IsRefused command bytes line

-- the line of an input that is too long
pub record IsTooLong (command : Subcommand) (source : Change) (line : List ℕ) : Type 0 where
  pub asked : reads command ≡ true
  pub given : GaveMore source
  pub is : line ≡ too_long_line

-- the one text that the input gives, whichever it is
abbrev pub IsText : Subcommand → Change → List ℕ → Type 0
IsText command source text =
    ((status : Status) × (history : Option (List ℕ)) × IsGiven command source status history text)
    ⊎ IsFault command source text
    ⊎ IsTooLong command source text

-- ---- what each status says of a call whose words are a command

abbrev pub EndsCommand : Subcommand → Change → Change → Status → Option (List ℕ) → Type 0
EndsCommand command source sink Usage history = ⊥
EndsCommand command source sink BadInput history =
    (history ≡ None) × ((line : List ℕ) × IsFault command source line × WasWritten sink line)
EndsCommand command source sink TooLong history =
    (history ≡ None) × ((line : List ℕ) × IsTooLong command source line × WasWritten sink line)
EndsCommand command source sink ReadFault history =
    (history ≡ None) × (reads command ≡ true) × Failed source × GaveFew source
EndsCommand command source sink WriteFault history =
    (history ≡ None) × Failed sink × ((text : List ℕ) × IsText command source text × PrefixWritten sink text)
EndsCommand command source sink NoMemory history = (history ≡ None) × GaveFew source
EndsCommand command source sink status history =
    (text : List ℕ) × IsGiven command source status history text × WasWritten sink text

-- ---- and where they are none

abbrev pub EndsUsage : Change → Status → Option (List ℕ) → Type 0
EndsUsage sink Usage history = (history ≡ None) × WasWritten sink usage_line
EndsUsage sink WriteFault history = (history ≡ None) × Failed sink × PrefixWritten sink usage_line
EndsUsage sink _ history = ⊥

-- how a call ends, by its words
abbrev pub Ends : Option Subcommand → Change → Change → Status → Option (List ℕ) → Type 0
Ends None source sink status history = EndsUsage sink status history
Ends (Some command) source sink status history = EndsCommand command source sink status history

-- ---- completeness

-- The source has these bytes, none of the command's faults among them, and did not fail.
pub record HasAccepted (command : Subcommand) (source : Change) : Type 0 where
  pub bytes : List ℕ
  pub left : source.before ≡ Some bytes
  pub few : length bytes ≤ 4194304
  pub accepted : IsAccepted command bytes
  pub sound : Failed source → ⊥

abbrev pub IsSoundIf : Bool → Subcommand → Change → Type 0
IsSoundIf true command source = HasAccepted command source
IsSoundIf false command source = Unit {0}

-- the input, if the command reads one, has no fault
abbrev pub IsSound : Subcommand → Change → Type 0
IsSound command source = IsSoundIf (reads command) command source

-- the status with which a command ends whose input has no fault
abbrev pub IsGood : Subcommand → Status → Type 0
IsGood Audit status = (status ≡ Done) ⊎ (status ≡ NotLegal)
IsGood _ status = status ≡ Done

-- Where neither stream failed and the input has no fault, the work is done, unless memory runs out.
abbrev pub Completes : Option Subcommand → Change → Change → Status → Type 0
Completes None source sink status = Unit {0}
Completes (Some command) source sink status =
    IsSound command source → (Failed sink → ⊥) → IsGood command status ⊎ (status ≡ NoMemory)

-- ---- what stays as it was

-- these words leave the source untouched
abbrev pub LeavesSource : Option Subcommand → Type 0
LeavesSource None = Unit {0}
LeavesSource (Some command) = reads command ≡ false

-- these statuses leave the sink untouched
abbrev pub LeavesSink : Status → Type 0
LeavesSink ReadFault = Unit {0}
LeavesSink NoMemory = Unit {0}
LeavesSink _ = ⊥
