use Rattle.narrow_plans.proofs.NarrowHistories.{law_narrow}
use Rattle.narrow_plans.proofs.law_narrow.Goals as goal

pub returns : goal.returns
returns c = law_narrow
