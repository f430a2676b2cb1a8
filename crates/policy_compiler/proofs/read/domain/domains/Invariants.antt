-- What is read so far, and the tables that are left, give what all of them give.
use Rattle.std.proofs.Common.{◌≡◌, [], drop, length}
use Rattle.std.specs.List.{AllByRecursion}
use Rattle.toml.specs.View.{items_view}
use Rattle.policy_compiler.specs.Policies.{IsDomain}
use Rattle.policy_compiler.specs.Reading.{domains_from}
use Rattle.policy_compiler.proofs.read.domain.domains.Given as goal

abbrev pub invariant-loop-place : goal.invariant-loop-place
invariant-loop-place l = record {
  same : domains_from l.rrids l.place l.domains.items (items_view (drop l.place l.values)) ≡ domains_from l.rrids 0 [] (items_view l.values);
  good : AllByRecursion (IsDomain l.rrids) l.domains.items;
  count : length l.domains.items ≡ l.place;
}
