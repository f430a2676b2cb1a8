-- The lines of the events so far are written, and the monitor has seen them.
use Rattle.std.proofs.Common.{◌≡◌, ℕ, List}
use Rattle.std.specs.List.{AllByRecursion}
use Rattle.event_words.specs.declared.shape.Shape.{Shape}
use Rattle.event_words.specs.Runs.{IsEventWord}
use Rattle.unit_core.specs.Histories.{history_of, logged_in}
use Rattle.fault_windows.specs.Monitors.{HasSeen}
use Rattle.history_reports.proofs.WindowPlaces.{IsWritten}
use Rattle.history_reports.proofs.windows.push_readings.Given as goal

abbrev pub invariant-loop-logged : goal.invariant-loop-logged
invariant-loop-logged l =
    (shapes : List Shape) (words : List ℕ) → AllByRecursion IsEventWord words → l.events ≡ logged_in shapes words → HasSeen (history_of shapes words) 0 l.initial.monitor
    → IsWritten l.out.items l.initial.out.items shapes words l.events l.logged-index l.monitor
