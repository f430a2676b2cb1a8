-- The lines of a history's late violations: what each reading shows, and how many requesters are left pending.
use Rattle.std.specs.Prelude.{ℕ, zero, suc, ◌+◌, ◌==◌, if◌then◌else◌, List, [], ◌++◌, Option, Some, None, length, flat_map, codes}
use Rattle.std.specs.Fmt.{decimal}
use Rattle.event_words.specs.declared.shape.Shape.{Shape}
use Rattle.event_words.specs.declared.event.Event.{Event}
use Rattle.event_words.specs.declared.event.Event.TheVariants.{RegRead}
use Rattle.event_words.specs.declared.record.LoggedEvent.{LoggedEvent}
use Rattle.event_words.specs.Texts.{hexadecimal}
use Rattle.unit_core.specs.Histories.{History, history_of, logged_in}
use Rattle.fault_windows.specs.declared.Shown.{Shown}
use Rattle.fault_windows.specs.Windows.{windows_index, pending_at}
use Rattle.fault_windows.specs.Monitors.{shown_by}

-- the window and its bits, or a dash
abbrev pub shown_text : Option Shown → List ℕ
shown_text None = codes "-"
shown_text (Some shown) = decimal shown.window ++ (codes " " ++ hexadecimal shown.bits)

-- `place caller mfr unit` and what the reading shows
abbrev pub shown_line : ℕ → ℕ → ℕ → Option Shown → List ℕ
shown_line place caller unit shown =
    decimal place ++ (codes " " ++ (decimal caller ++ (codes " mfr " ++ (decimal unit ++ (codes " " ++ (shown_text shown ++ codes "\n"))))))

-- the line of an event that is a reading of the windows; no line for another
abbrev pub line_of : ℕ → Event → Option Shown → List ℕ
line_of place (RegRead unit caller index) shown =
    if index == windows_index then shown_line place caller unit shown else []
line_of place _ shown = []

abbrev pub reading_line : History → LoggedEvent → List ℕ
reading_line h x = line_of x.place x.event (shown_by h x.place x.event)

-- `left unit` and a count
abbrev pub left_text : ℕ → ℕ → List ℕ
left_text u count = codes "left " ++ (decimal u ++ (codes " " ++ (decimal count ++ codes "\n")))

-- how many requesters of a unit are pending before place k
abbrev pub left_line : History → ℕ → ℕ → List ℕ
left_line h k u = left_text u (length (pending_at h u k))

-- those of n units from u on
abbrev pub left_lines : History → ℕ → ℕ → ℕ → List ℕ
left_lines h k u zero = []
left_lines h k u (suc n) = left_line h k u ++ left_lines h k (u + 1) n

-- A line for each reading, a line for each unit after the last event, and `end`.
abbrev pub windows_text : List Shape → List ℕ → List ℕ
windows_text shapes words =
    flat_map (reading_line (history_of shapes words)) (logged_in shapes words)
    ++ (left_lines (history_of shapes words) (length words) 0 (length shapes) ++ codes "end\n")
