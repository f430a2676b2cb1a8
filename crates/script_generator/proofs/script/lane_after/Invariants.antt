-- The transactions so far, and the last draw.
use Rattle.std.proofs.Common.{◌≡◌, flat_map}
use Rattle.std.specs.List.{range_with_len}
use Rattle.script_generator.specs.GeneratedScripts.{draw, transaction}
use Rattle.script_generator.proofs.script.lane_after.Given as goal

abbrev pub invariant-loop-slot : goal.invariant-loop-slot
invariant-loop-slot l = (l.last ≡ draw l.fn.last l.slot) × (l.commands.items ≡ flat_map (transaction l.fn.last) (range_with_len 0 l.slot))
