-- What is written and the lines of the units that are left are the lines of all of them.
use Rattle.std.proofs.Common.{◌≡◌, ◌++◌, drop}
use Rattle.unit_core.specs.Reports.{unit_lines}
use Rattle.script_player.proofs.told.push_units.Given as goal

abbrev pub invariant-loop-unit : goal.invariant-loop-unit
invariant-loop-unit l = l.out.items ++ unit_lines l.unit (drop l.unit l.units.state.units) ≡ l.initial.out.items ++ unit_lines 0 l.units.state.units
