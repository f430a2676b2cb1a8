-- The members that are left have another key where all of them have.
use Rattle.std.proofs.Common.{◌≡◌}
use Rattle.toml.specs.View.{members_view, table_view}
use Rattle.policy_compiler.specs.Tables.{has_other_key}
use Rattle.policy_compiler.proofs.read.tables.has_other_key.Given as goal

abbrev pub invariant-loop-key : goal.invariant-loop-key
invariant-loop-key l =
    (goal.iterator-loop-key).can_next l.key-iterator
    × (goal.iterator-loop-key).is_finite l.key-iterator
    × (has_other_key l.part (members_view l.key-iterator) ≡ has_other_key l.part (table_view l.table))
