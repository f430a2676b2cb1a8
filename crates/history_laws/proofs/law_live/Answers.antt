use Rattle.history_laws.proofs.LiveUpdate.{law_live}
use Rattle.history_laws.proofs.law_live.Goals as goal

-- src/lib.rt:7:1
pub returns : goal.returns
returns c = law_live
