-- The law of generated scripts' histories.
use Rattle.script_generator.proofs.SoakCounts.{soaked}
use Rattle.script_generator.proofs.law_soak.Goals as goal

pub returns : goal.returns
returns c = soaked
