-- What a program may promise of each of its histories, and of each list of words.
use Rattle.std.specs.List.{AllByRecursion}
use Rattle.std.proofs.Common.{ℕ, List}
use Rattle.std.proofs.lemmas.List.Elements.{All-from_recursion}
use Rattle.event_words.specs.declared.shape.Shape.{Shape}
use Rattle.event_words.specs.Valid.{IsValidShape}
use Rattle.unit_core.specs.Histories.{history_of}
use Rattle.history_laws.specs.Laws.{KeepsLaws, LawKept}
use Rattle.history_laws.proofs.WindowLaw.{law_windows}
use Rattle.history_laws.proofs.BusyLaw.{law_busy}
use Rattle.history_laws.proofs.GuardLaw.{law_guards}

pub law_kept : LawKept
law_kept h valid = record { windows = law_windows h; busy = law_busy h; guards = law_guards h valid }

-- so for a list of words
pub words_kept : (shapes : List Shape) (words : List ℕ) → AllByRecursion IsValidShape shapes → KeepsLaws (history_of shapes words)
words_kept shapes words valid = law_kept (history_of shapes words) (All-from_recursion IsValidShape shapes valid)
