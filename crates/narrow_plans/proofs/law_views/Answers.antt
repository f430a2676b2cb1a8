use Rattle.narrow_plans.proofs.ViewKinds.{views_decide}
use Rattle.narrow_plans.proofs.law_views.Goals as goal

pub returns : goal.returns
returns c = views_decide
