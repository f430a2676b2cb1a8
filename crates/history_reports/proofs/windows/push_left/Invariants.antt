-- What is written and the lines of the units that are left are the lines of all of them.
use Rattle.std.proofs.Common.{◌≡◌, ◌++◌, ◌-◌, ℕ}
use Rattle.unit_core.specs.Histories.{History}
use Rattle.fault_windows.specs.Monitors.{HasSeen}
use Rattle.history_reports.specs.WindowLines.{left_lines}
use Rattle.history_reports.proofs.windows.push_left.Given as goal

abbrev pub invariant-loop-unit : goal.invariant-loop-unit
invariant-loop-unit l =
    (h : History) (k : ℕ) → HasSeen h k l.monitor → l.out.items ++ left_lines h k l.unit (l.units - l.unit) ≡ l.initial.out.items ++ left_lines h k 0 l.units
