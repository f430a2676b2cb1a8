-- A script without lanes has one legal history.
use Rattle.std.specs.Prelude.{◌≡◌, ℕ, List, []}
use Rattle.event_words.specs.declared.shape.Shape.{Shape}
use Rattle.event_words.specs.Sections.{SectionOf}
use Rattle.unit_core.specs.Histories.{IsLegalHistory}

-- Two histories that are legal for the same boot section, without lanes, are equal.
abbrev pub LawOneHistory : Type 0
LawOneHistory = (shapes : List Shape) (boot : SectionOf) (v w : List ℕ) → IsLegalHistory shapes boot [] v → IsLegalHistory shapes boot [] w
    → v ≡ w
