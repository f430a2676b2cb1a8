use Rattle.history_laws.proofs.NothingFoundLaw.{law_no_such}
use Rattle.history_laws.proofs.law_no_such.Goals as goal

pub returns : goal.returns
returns c = law_no_such
