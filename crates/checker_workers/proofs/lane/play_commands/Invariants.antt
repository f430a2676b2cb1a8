-- The commands so far are played.
use Rattle.std.proofs.Common.{◌≡◌, vec_len, vec_capacity}
use Rattle.checker_workers.proofs.Playing.{Playing}
use Rattle.checker_workers.proofs.lane.play_commands.Given as goal

abbrev pub invariant-loop-command : goal.invariant-loop-command
invariant-loop-command g l = record {
  playing : Playing l.initial.port l.commands l.command-index l.port l.table.items (vec_len l.table) (vec_capacity l.table);
  first : l.first ≡ l.initial.port.left;
}
