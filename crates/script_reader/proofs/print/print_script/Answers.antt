-- The reader gives the script for its canonical text.
use Rattle.std.proofs.Common.{ap, ◌∙◌}
use Rattle.script_reader.specs.Answers.{reading_of}
use Rattle.script_reader.proofs.WrittenScripts.{script_reads_back}
use Rattle.script_reader.proofs.print.print_script.Goals as goal

pub returns-in-Ok-clause-read : goal.returns-in-Ok-clause-read
returns-in-Ok-clause-read c = λ readable. ap reading_of c.in-Ok.ensures ∙ script_reads_back c.args.script.now readable
