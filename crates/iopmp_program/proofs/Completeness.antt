-- Completeness follows from what each status says.
use Rattle.std.proofs.Common.{◌≡◌, ℕ, ◌<◌, ◌≤◌, ◌⊎◌, Bool, true, false, List, length, Option, Some, None, IfSome, refl, ap, subst, inl, inr, ◌∙◌, length-append, arith}
use Rattle.std.specs.Io.KnownBytes.{Consumes}
use Rattle.command_answers.specs.declared.status.Status.{Status}
use Rattle.command_answers.specs.declared.status.Status.TheVariants as statuses
use Rattle.command_answers.specs.declared.subcommand.Subcommand.{Subcommand}
use Rattle.command_answers.specs.declared.subcommand.Subcommand.TheVariants.{Run, Compile, Plan, Live, Gen, Soak, Faults, Audit, Narrow, NarrowLive}
use Rattle.command_answers.specs.CommandTables.{reads, Gives, IsRefused}
use Rattle.iopmp_program.specs.CallEndings.{Change, Failed, WasRead, IsFault, EndsCommand, HasAccepted, IsSoundIf, IsSound, IsGood, Completes}
use Rattle.command_answers.proofs.Accepted.{never_refused}
use Rattle.command_answers.proofs.GivenStatuses.{given_status}

read_is : (left : Option (List ℕ)) (bytes bs : List ℕ) → left ≡ Some bytes → IfSome left (λ xs. bs ≡ xs) → bs ≡ bytes
read_is None bytes bs e h = cc
read_is (Some xs) bytes bs e h = let p : xs ≡ bytes = cc in h ∙ p

long_not : (left after : Option (List ℕ)) (bytes given : List ℕ) → left ≡ Some bytes → length bytes ≤ 4194304 → Consumes left after given → 4194304 < length given → ⊥
long_not None after bytes given e few c long = cc
long_not (Some xs) None bytes given e few c long = absurd c
long_not (Some xs) (Some ys) bytes given e few c long =
    let p : xs ≡ bytes = cc in
    omega (arith, length-append given ys, ap length c, ap length p)

-- a command that reads has an accepted input
asked : (b : Bool) (command : Subcommand) (source : Change) → b ≡ true → IsSoundIf b command source → HasAccepted command source
asked true command source e h = h
asked false command source e h = cc

accepted_not : (command : Subcommand) (source : Change) (bytes line : List ℕ) → WasRead source bytes → HasAccepted command source → IsRefused command bytes line → ⊥
accepted_not command source bytes line read ok r =
    never_refused command ok.bytes line ok.accepted (subst (λ b. IsRefused command b line) (read_is source.before ok.bytes bytes ok.left read.whole) r)

no_fault : (command : Subcommand) (source : Change) (line : List ℕ) → IsFault command source line → IsSound command source → ⊥
no_fault Run source line f ok = accepted_not Run source f.0 line f.1 ok f.2
no_fault Compile source line f ok = accepted_not Compile source f.0 line f.1 ok f.2
no_fault Plan source line f ok = accepted_not Plan source f.0 line f.1 ok f.2
no_fault Live source line f ok = accepted_not Live source f.0 line f.1 ok f.2
no_fault (Gen number) source line f ok = absurd f.2
no_fault (Soak number) source line f ok = absurd f.2
no_fault Faults source line f ok = accepted_not Faults source f.0 line f.1 ok f.2
no_fault Audit source line f ok = accepted_not Audit source f.0 line f.1 ok f.2
no_fault Narrow source line f ok = accepted_not Narrow source f.0 line f.1 ok f.2
no_fault NarrowLive source line f ok = accepted_not NarrowLive source f.0 line f.1 ok f.2

not_long : (command : Subcommand) (source : Change) (given : List ℕ) → HasAccepted command source → Consumes source.before source.after given → 4194304 < length given → ⊥
not_long command source given ok c long = long_not source.before source.after ok.bytes given ok.left ok.few c long

-- a status that a command gives with a text is one of its good ones
given_good : (command : Subcommand) (bytes : List ℕ) (status : Status) (history : Option (List ℕ)) (text : List ℕ) → Gives command bytes status history text → IsGood command status
given_good Run bytes status history text g = g.0
given_good Compile bytes status history text g = g.0
given_good Plan bytes status history text g = g.0
given_good Live bytes status history text g = g.0
given_good (Gen number) bytes status history text g = g.0
given_good (Soak number) bytes status history text g = g.0
given_good Faults bytes status history text g = g.0
given_good Audit bytes status history text g = given_status Audit bytes status history text g
given_good Narrow bytes status history text g = g.0
given_good NarrowLive bytes status history text g = g.0

pub completes : (command : Subcommand) (source sink : Change) (status : Status) (history : Option (List ℕ)) → EndsCommand command source sink status history
    → IsSound command source → (Failed sink → ⊥) → IsGood command status ⊎ (status ≡ statuses.NoMemory)
completes command source sink statuses.Done history e ok sound = inl (given_good command e.1.0 statuses.Done history e.0 e.1.2)
completes command source sink statuses.NotLegal history e ok sound = inl (given_good command e.1.0 statuses.NotLegal history e.0 e.1.2)
completes command source sink statuses.NoMemory history e ok sound = inr refl
completes command source sink statuses.Usage history e ok sound = absurd e
completes command source sink statuses.BadInput history e ok sound = absurd (no_fault command source e.1.0 e.1.1 ok)
completes command source sink statuses.ReadFault history e ok sound = absurd ((asked (reads command) command source e.1 ok).sound e.2)
completes command source sink statuses.WriteFault history e ok sound = absurd (sound e.1)
completes command source sink statuses.TooLong history e ok sound =
    let long = e.1.1 in
    absurd (not_long command source long.given.0 (asked (reads command) command source long.asked ok) long.given.1 long.given.2)

-- so of the words of a command
pub words_complete : (words : Option Subcommand) (command : Subcommand) (source sink : Change) (status : Status) (history : Option (List ℕ)) → Some command ≡ words
    → EndsCommand command source sink status history → Completes words source sink status
words_complete words command source sink status history is ends = subst (λ w. Completes w source sink status) is (λ ok sound. completes command source sink status history ends ok sound)
