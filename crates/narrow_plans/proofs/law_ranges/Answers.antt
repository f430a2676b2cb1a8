use Rattle.narrow_plans.proofs.EntryRanges.{holds_range}
use Rattle.narrow_plans.proofs.law_ranges.Goals as goal

pub returns : goal.returns
returns c = holds_range
