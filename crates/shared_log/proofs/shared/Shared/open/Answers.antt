-- The empty words are those of a log that nobody wrote.
use Rattle.std.proofs.Common.{ℕ, List, [], ◌∷◌, sym, ◌∙◌, subst}
use Rattle.shared_log.specs.SeatViews.{opening_view}
use Rattle.shared_log.specs.Rule.{IsSharedLog}
use Rattle.shared_log.proofs.LogSteps.{opening_kept}
use Rattle.shared_log.proofs.shared.Shared.open.Goals as goal

pub of_words-requires : goal.of_words-requires
of_words-requires g c = let h = c.in-Ok.ensures.items_if_clones_equal (λ y e. e) in
    subst (λ (l : List ℕ). IsSharedLog c.args.callers c.args.budget l (opening_view c.args.callers c.args.budget ∷ [])) (sym (c.as_slice.ensures.value ∙ h)) (opening_kept c.args.callers c.args.budget c.requires.callers.0)
