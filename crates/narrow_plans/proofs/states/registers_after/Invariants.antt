-- what is left of the writes gives the image's registers
use Rattle.std.proofs.Common.{◌≡◌, drop}
use Rattle.event_words.specs.Registers.{at_reset}
use Rattle.policy_compiler.specs.Laws.{after_writes}
use Rattle.narrow_plans.proofs.states.registers_after.Given as goal

abbrev pub invariant-loop-write : goal.invariant-loop-write
invariant-loop-write l = after_writes l.regs (drop l.write-index l.image.writes) ≡ after_writes (at_reset l.image.shape) l.image.writes
