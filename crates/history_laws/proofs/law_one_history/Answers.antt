use Rattle.history_laws.proofs.OneHistoryLaw.{law_one_history}
use Rattle.history_laws.proofs.law_one_history.Goals as goal

-- src/lib.rt:7:1
pub returns : goal.returns
returns c = law_one_history
