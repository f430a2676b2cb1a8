use Rattle.decoded_tables.specs.Walking.{IsBehind}
use Rattle.decoded_tables.proofs.entries.owner_from.Given as goal

abbrev pub invariant-loop-domain : goal.invariant-loop-domain
invariant-loop-domain l = IsBehind l.regs l.domain l.entry
