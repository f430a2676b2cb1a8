use Rattle.history_laws.proofs.Kept.{law_kept}
use Rattle.history_laws.proofs.law_kept.Goals as goal

pub returns : goal.returns
returns c = law_kept
