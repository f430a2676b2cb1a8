-- What is left answers as the whole does.
use Rattle.std.proofs.Common.{◌≡◌, drop}
use Rattle.toml.specs.View.{items_view}
use Rattle.policy_compiler.specs.Tables.{are_integers}
use Rattle.policy_compiler.proofs.read.tables.are_integers.Given as goal

abbrev pub invariant-loop-value : goal.invariant-loop-value
invariant-loop-value l = are_integers (items_view (drop l.value-index l.values)) ≡ are_integers (items_view l.values)
