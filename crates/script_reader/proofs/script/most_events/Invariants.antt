-- The sections that are left give what all of them give.
use Rattle.std.proofs.Common.{◌≡◌, ◌≤◌, ◌^◌, drop}
use Rattle.script_reader.specs.Scripts.{most_from}
use Rattle.script_reader.proofs.script.most_events.Given as goal

abbrev pub invariant-loop-section : goal.invariant-loop-section
invariant-loop-section l = (most_from l.most (drop l.section-index l.sections) ≡ most_from l.least l.sections) × (l.most ≤ 2 ^ 40)
