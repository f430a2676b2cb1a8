-- What the two functions that touch the streams leave: the one that reads and the one that writes.
use Rattle.std.specs.Prelude.{◌≡◌, ◌⊎◌, ℕ, ◌≤◌, true, List, length, Vec, Result, Ok, Err, None}
use Rattle.std.specs.declared.option.Option.{Option}
use Rattle.std.specs.declared.alloc.Global.{Global}
use Rattle.edge_io.specs.declared.whole.ReadError.{ReadError}
use Rattle.edge_io.specs.declared.whole.ReadError.TheVariants.{Fault, TooLong, NoMemory}
use Rattle.command_answers.specs.declared.status.Status.{Status}
use Rattle.command_answers.specs.declared.status.Status.TheVariants.{WriteFault}
use Rattle.command_answers.specs.declared.subcommand.Subcommand.{Subcommand}
use Rattle.command_answers.specs.CommandTables.{reads}
use Rattle.iopmp_program.specs.CallEndings.{Change, Failed, WasWritten, PrefixWritten, IsInput, GaveFew, GaveMore}

-- a command's input
pub record IsReadInput (command : Subcommand) (source : Change) (bytes : List ℕ) : Type 0 where
  pub input : IsInput command source bytes
  pub few : length bytes ≤ 4194304
  pub given : GaveFew source

-- or why there is none
abbrev pub Reads : Subcommand → Change → Result (Vec ℕ Global) ReadError → Type 0
Reads command source (Ok bytes) = IsReadInput command source bytes.items
Reads command source (Err Fault) = (reads command ≡ true) × Failed source × GaveFew source
Reads command source (Err TooLong) = (reads command ≡ true) × GaveMore source
Reads command source (Err NoMemory) = GaveFew source

-- the whole text was written, and the call ends with this status and history
pub record Writes (sink : Change) (wanted : Status) (told : Option (List ℕ)) (text : List ℕ) (status : Status) (history : Option (List ℕ)) : Type 0 where
  pub status_is : status ≡ wanted
  pub history_is : history ≡ told
  pub written : WasWritten sink text

-- the sink failed, and a prefix was written
pub record Stops (sink : Change) (text : List ℕ) (status : Status) (history : Option (List ℕ)) : Type 0 where
  pub status_is : status ≡ WriteFault
  pub none : history ≡ None
  pub failed : Failed sink
  pub written : PrefixWritten sink text

abbrev pub WritesOrStops : Change → Status → Option (List ℕ) → List ℕ → Status → Option (List ℕ) → Type 0
WritesOrStops sink wanted told text status history =
    Writes sink wanted told text status history ⊎ Stops sink text status history
