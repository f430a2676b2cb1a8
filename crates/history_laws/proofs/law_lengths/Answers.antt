use Rattle.history_laws.proofs.LengthLaw.{law_lengths}
use Rattle.history_laws.proofs.law_lengths.Goals as goal

-- src/lib.rt:7:1
pub returns : goal.returns
returns c = law_lengths
