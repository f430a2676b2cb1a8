-- The exit status of each end.
use Rattle.std.specs.Prelude.{ℕ}
use Rattle.command_answers.specs.declared.status.Status.{Status}
use Rattle.command_answers.specs.declared.status.Status.TheVariants.{Done, Usage, BadInput, ReadFault, WriteFault, NoMemory, TooLong, NotLegal}

abbrev pub code_of : Status → ℕ
code_of Done = 0
code_of Usage = 2
code_of BadInput = 3
code_of ReadFault = 4
code_of WriteFault = 5
code_of NoMemory = 6
code_of TooLong = 7
code_of NotLegal = 8
