-- The set so far, and the integers that are left, give what all of them give.
use Rattle.std.proofs.Common.{◌≡◌, ◌<◌, ◌^◌, drop}
use Rattle.toml.specs.View.{items_view}
use Rattle.policy_compiler.specs.Reading.{mask_from}
use Rattle.policy_compiler.proofs.read.domain.mask.Given as goal

abbrev pub invariant-loop-value : goal.invariant-loop-value
invariant-loop-value l = record {
  same : mask_from l.path l.rrids l.mask (items_view (drop l.value-index l.values)) ≡ mask_from l.path l.rrids 0 (items_view l.values);
  small : l.mask < 2 ^ l.rrids;
}
