-- The writes so far are pushed.
use Rattle.std.proofs.Common.{◌≡◌, ◌++◌, map, take}
use Rattle.policy_compiler.specs.Commands.{write_command}
use Rattle.update_planner.proofs.commands.write_all.Given as goal

abbrev pub invariant-loop-pair : goal.invariant-loop-pair
invariant-loop-pair l = l.commands.items ≡ l.initial.commands.items ++ map write_command (take l.pair-index l.writes)
