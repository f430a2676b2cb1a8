use Rattle.history_laws.proofs.AimLaw.{law_aims}
use Rattle.history_laws.proofs.law_aims.Goals as goal

pub returns : goal.returns
returns c = law_aims
