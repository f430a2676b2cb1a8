use Rattle.history_laws.proofs.UnwrittenLaw.{law_unwritten}
use Rattle.history_laws.proofs.law_unwritten.Goals as goal

pub returns : goal.returns
returns c = law_unwritten
