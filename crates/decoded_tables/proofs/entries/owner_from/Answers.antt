use Rattle.std.proofs.Common.{arith}
use Rattle.mdcfg_formats.proofs.Runs.{owner_here}
use Rattle.decoded_tables.proofs.Walks.{behind_more}
use Rattle.decoded_tables.proofs.entries.owner_from.Goals as goal

pub returns-then-entry-bound_of-clause-owner : goal.returns-then-entry-bound_of-clause-owner
returns-then-entry-bound_of-clause-owner c = λ h. owner_here c.args.regs.now c.loop-domain.domain c.args.entry h (omega arith) c.loop-domain.invariant

pub loop-domain-preserved : goal.loop-domain-preserved
loop-domain-preserved c = behind_more c.args.regs.now c.loop-domain.domain c.args.entry c.loop-domain.invariant (omega arith)
