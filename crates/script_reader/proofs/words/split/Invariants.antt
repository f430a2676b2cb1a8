-- The words that were found and those that are left are the first line's.
use Rattle.std.proofs.Common.{◌-◌, length}
use Rattle.script_reader.specs.Text.{first_line}
use Rattle.script_reader.proofs.Found.{Found}
use Rattle.script_reader.proofs.words.split.Given as goal

abbrev pub invariant-loop-at : goal.invariant-loop-at
invariant-loop-at l = Found (first_line l.text) l.starts l.ends l.count l.at

abbrev pub decreases-loop-at : goal.decreases-loop-at
decreases-loop-at l = length l.text - l.at
