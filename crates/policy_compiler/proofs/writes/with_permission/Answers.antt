use Rattle.std.proofs.Common.{arith}
use Rattle.policy_compiler.proofs.WriteSteps.{four_room}
use Rattle.policy_compiler.proofs.writes.with_permission.Goals as goal

pub overflow_mul-result : goal.overflow_mul-result
overflow_mul-result c = omega (arith, four_room c.args.rrid c.requires.rrid)

pub overflow_add-result : goal.overflow_add-result
overflow_add-result c = omega (arith, four_room c.args.rrid c.requires.rrid)
