-- Completeness follows from how the call ends.
use Rattle.std.proofs.Common.{sym, ◌∙◌}
use Rattle.iopmp_program.proofs.Completeness.{words_complete}
use Rattle.iopmp_program.proofs.program.top.Goals as goal

pub returns-in-Some-clause-completes : goal.returns-in-Some-clause-completes
returns-in-Some-clause-completes g c = words_complete _ c.in-Some.command _ _ _ _ (sym c.in-Some.is ∙ c.command_in.ensures) c.call_command.ensures.ends
