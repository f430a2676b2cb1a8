-- A call after a look ends as one without it.
use Rattle.std.proofs.Common.{ℕ, Bool, true, false, List, Option, Some, None, subst, inl, inr}
use Rattle.std.specs.Io.KnownBytes.{Keeps}
use Rattle.command_answers.specs.declared.status.Status.{Status}
use Rattle.command_answers.specs.declared.status.Status.TheVariants as statuses
use Rattle.command_answers.specs.declared.subcommand.Subcommand.{Subcommand}
use Rattle.command_answers.specs.CommandTables.{reads}
use Rattle.iopmp_program.specs.CallEndings.{Change, IsInputIf, IsText, GaveFew, GaveMore, EndsCommand, Ends, Completes, change}
use Rattle.iopmp_program.proofs.Completeness.{completes}
use Rattle.iopmp_mixed.specs.Aheads.{AheadView, left_of, handed_on, LooksAhead}

-- the same source, of which it isn't told what it had left before
abbrev untold : Change → Change
untold s = record s { before = None }

untold_input : (asked : Bool) (s : Change) (bytes : List ℕ) → IsInputIf asked s bytes → IsInputIf asked (untold s) bytes
untold_input true s bytes read = record { whole = tt; end = read.end; few = read.few }
untold_input false s bytes none = none

untold_few : (s : Change) → GaveFew s → GaveFew (untold s)
untold_few s gave = (gave.0, tt, gave.2)

untold_more : (s : Change) → GaveMore s → GaveMore (untold s)
untold_more s gave = (gave.0, tt, gave.2)

untold_text : (command : Subcommand) (s : Change) (text : List ℕ) → IsText command s text → IsText command (untold s) text
untold_text command s text (inl given) = inl (given.0, given.1, (given.2.0, untold_input (reads command) s given.2.0 given.2.1, given.2.2))
untold_text command s text (inr (inl fault)) = inr (inl (fault.0, untold_input (reads command) s fault.0 fault.1, fault.2))
untold_text command s text (inr (inr long)) = inr (inr (record { asked = long.asked; given = untold_more s long.given; is = long.is }))

untold_command : (command : Subcommand) (s sink : Change) (status : Status) (history : Option (List ℕ)) → EndsCommand command s sink status history → EndsCommand command (untold s) sink status history
untold_command command s sink statuses.Done history e = (e.0, (e.1.0, untold_input (reads command) s e.1.0 e.1.1, e.1.2), e.2)
untold_command command s sink statuses.NotLegal history e = (e.0, (e.1.0, untold_input (reads command) s e.1.0 e.1.1, e.1.2), e.2)
untold_command command s sink statuses.Usage history e = e
untold_command command s sink statuses.BadInput history e = (e.0, (e.1.0, (e.1.1.0, untold_input (reads command) s e.1.1.0 e.1.1.1, e.1.1.2), e.1.2))
untold_command command s sink statuses.ReadFault history e = (e.0, e.1, e.2, untold_few s e.3)
untold_command command s sink statuses.WriteFault history e = (e.0, e.1, (e.2.0, untold_text command s e.2.0 e.2.1, e.2.2))
untold_command command s sink statuses.NoMemory history e = (e.0, untold_few s e.1)
untold_command command s sink statuses.TooLong history e =
    let long = e.1.1 in
    (e.0, (e.1.0, record { asked = long.asked; given = untold_more s long.given; is = long.is }, e.1.2))

untold_ends : (words : Option Subcommand) (s sink : Change) (status : Status) (history : Option (List ℕ)) → Ends words s sink status history → Ends words (untold s) sink status history
untold_ends None s sink status history e = e
untold_ends (Some command) s sink status history e = untold_command command s sink status history e

kept_ends : (words : Option Subcommand) (a b after : Option (List ℕ)) (m n : ℕ) (sink : Change) (status : Status) (history : Option (List ℕ)) → Keeps a b
    → Ends words (record { before = b; after = after; faults_before = m; faults_after = n }) sink status history
    → Ends words (record { before = a; after = after; faults_before = m; faults_after = n }) sink status history
kept_ends words None b after m n sink status history k e = untold_ends words _ sink status history e
kept_ends words (Some x) None after m n sink status history k e = absurd k
kept_ends words (Some x) (Some y) after m n sink status history k e =
    subst (λ z. Ends words (record { before = Some z; after = after; faults_before = m; faults_after = n }) sink status history) k e

pub looked_ends : {S : Type 0} (left : S → Option (List ℕ)) (words : Option Subcommand) (old looked new : AheadView S) (sink : Change) (status : Status) (history : Option (List ℕ))
    → LooksAhead left old looked
    → Ends words (change (left_of left) handed_on looked new) sink status history
    → Ends words (change (left_of left) handed_on old new) sink status history
looked_ends left words old looked new sink status history l e =
    kept_ends words (left_of left old) (left_of left looked) (left_of left new) old.faults new.faults sink status history l.same
    (subst (λ m. Ends words (record { before = left_of left looked; after = left_of left new; faults_before = m; faults_after = new.faults }) sink status history) l.quiet e)

pub ends_complete : (words : Option Subcommand) (source sink : Change) (status : Status) (history : Option (List ℕ)) → Ends words source sink status history → Completes words source sink status
ends_complete None source sink status history e = tt
ends_complete (Some command) source sink status history e = λ ok sound. completes command source sink status history e ok sound
