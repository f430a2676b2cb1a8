-- The lanes so far, and the last draw.
use Rattle.std.proofs.Common.{◌≡◌, ◌*◌, map}
use Rattle.std.specs.List.{range_with_len}
use Rattle.script_generator.specs.GeneratedScripts.{draw, generated_lane}
use Rattle.script_generator.proofs.script.lanes.Given as goal

abbrev pub invariant-loop-lane : goal.invariant-loop-lane
invariant-loop-lane l = (l.last ≡ draw l.number (l._lane * 4096)) × (l.lanes.items ≡ map (generated_lane l.number) (range_with_len 0 l._lane))
