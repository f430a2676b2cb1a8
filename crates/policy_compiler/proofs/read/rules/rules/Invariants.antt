-- What is read so far, and the tables that are left, give what all of them give.
use Rattle.std.proofs.Common.{◌≡◌, [], drop, length}
use Rattle.toml.specs.View.{items_view}
use Rattle.policy_compiler.specs.Policies.{AreRules}
use Rattle.policy_compiler.specs.Rules.{rules_from}
use Rattle.policy_compiler.proofs.read.rules.rules.Given as goal

abbrev pub invariant-loop-place : goal.invariant-loop-place
invariant-loop-place l = record {
  same : rules_from l.kind l.domain l.place l.rules.items (items_view (drop l.place l.values)) ≡ rules_from l.kind l.domain 0 [] (items_view l.values);
  good : AreRules l.rules.items;
  count : length l.rules.items ≡ l.place;
}
