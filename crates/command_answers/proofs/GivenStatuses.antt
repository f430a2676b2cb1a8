-- The status that a command gives with its text is one of those with which the work is done.
use Rattle.std.proofs.Common.{◌≡◌, ℕ, ◌⊎◌, List, Option, inl, inr}
use Rattle.audit_reader.specs.declared.answer.Audit.{Audit as Found}
use Rattle.audit_reader.specs.declared.answer.Audit.TheVariants.{Legal, BadAt}
use Rattle.command_answers.specs.declared.status.Status.{Status}
use Rattle.command_answers.specs.declared.status.Status.TheVariants.{Done, NotLegal}
use Rattle.command_answers.specs.declared.subcommand.Subcommand.{Subcommand}
use Rattle.command_answers.specs.declared.subcommand.Subcommand.TheVariants.{Run, Compile, Plan, Live, Gen, Soak, Faults, Audit, Narrow, NarrowLive}
use Rattle.command_answers.specs.AuditCommand.{Says}
use Rattle.command_answers.specs.CommandTables.{Gives}

said_status : (heading : ℕ) (found : Found) (status : Status) (history : Option (List ℕ)) (text : List ℕ) → Says heading found status history text → (status ≡ Done) ⊎ (status ≡ NotLegal)
said_status heading Legal status history text s = inl s.0
said_status heading (BadAt line) status history text s = inr s.0

pub given_status : (command : Subcommand) (bytes : List ℕ) (status : Status) (history : Option (List ℕ)) (text : List ℕ) → Gives command bytes status history text → (status ≡ Done) ⊎ (status ≡ NotLegal)
given_status Run bytes status history text g = inl g.0
given_status Compile bytes status history text g = inl g.0
given_status Plan bytes status history text g = inl g.0
given_status Live bytes status history text g = inl g.0
given_status (Gen number) bytes status history text g = inl g.0
given_status (Soak number) bytes status history text g = inl g.0
given_status Faults bytes status history text g = inl g.0
given_status Audit bytes status history text g = said_status g.input.parts.heading g.said.found status history text g.said.says
given_status Narrow bytes status history text g = inl g.0
given_status NarrowLive bytes status history text g = inl g.0
