-- The laws that a program's history keeps.
use Rattle.std.specs.Prelude.{All}
use Rattle.event_words.specs.Valid.{IsValidShape}
use Rattle.unit_core.specs.Histories.{History}
use Rattle.history_laws.specs.Windows.{KeepsWindows}
use Rattle.history_laws.specs.Busy.{KeepsBusy}
use Rattle.history_laws.specs.Guards.{KeepsGuards}

-- No verdict on a requester is inside a drained window of that requester, Busy stands only where the
-- queue is full, and guarded bits never change.
pub record KeepsLaws (h : History) : Type 0 where
  pub windows : KeepsWindows h
  pub busy : KeepsBusy h
  pub guards : KeepsGuards h

-- Every history of units with valid shapes keeps them.
abbrev pub LawKept : Type 0
LawKept = (h : History) → All IsValidShape h.shapes → KeepsLaws h
