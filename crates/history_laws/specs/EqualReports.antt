-- A report tells the whole history that it is of.
use Rattle.std.specs.Prelude.{◌≡◌, ℕ, List}
use Rattle.std.specs.List.{AllByRecursion}
use Rattle.event_words.specs.declared.shape.Shape.{Shape}
use Rattle.event_words.specs.Runs.{IsEventWord}
use Rattle.event_words.specs.Sections.{SectionOf}
use Rattle.unit_core.specs.Reports.{report_text}

-- Two lists of event words, legal or not, that give equal reports under one script are equal. Each
-- legal history is such a list.
abbrev pub LawReports : Type 0
LawReports = (shapes : List Shape) (boot : SectionOf) (lanes : List SectionOf) (v w : List ℕ) → AllByRecursion IsEventWord v
    → AllByRecursion IsEventWord w → report_text shapes boot lanes v ≡ report_text shapes boot lanes w → v ≡ w
