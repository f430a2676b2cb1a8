-- No verdict on a requester falls inside a drained window of it.
use Rattle.std.specs.Prelude.{ℕ}
use Rattle.unit_core.specs.Histories.{History}
use Rattle.unit_core.specs.Windows.{IsInDrainedWindow, IsVerdictOn}

-- No place in a drained window of a requester is a verdict on an access of that requester.
abbrev pub KeepsWindows : History → Type 0
KeepsWindows h = (u s b p : ℕ) → IsInDrainedWindow h u s b p → IsVerdictOn h u s p → ⊥

abbrev pub LawWindows : Type 0
LawWindows = (h : History) → KeepsWindows h
