-- The lines that are left give what all of them give.
use Rattle.std.proofs.Common.{◌≡◌, ◌+◌, ◌≤◌, length}
use Rattle.script_reader.specs.UpdateTexts.{update_from, update_text_at}
use Rattle.script_reader.proofs.UpdateSizes.{Fitted}
use Rattle.script_reader.proofs.update_text.read_update.Given as goal

abbrev pub invariant-loop-line : goal.invariant-loop-line
invariant-loop-line l =
    (update_from l.after l.reader l.number l.lines ≡ update_text_at l.with_lanes l.bytes)
    × (l.number + length l.lines ≤ length l.bytes + 2)
    × Fitted (length l.bytes + 1) l.lines l.reader l.number

abbrev pub decreases-loop-line : goal.decreases-loop-line
decreases-loop-line l = length l.lines
