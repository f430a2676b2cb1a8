-- What is kept stays valid.
use Rattle.std.proofs.Common.{◌≡◌, ℕ, suc, zero, ◌++◌, List, [], ◌∷◌, Some, set, sym, subst}
use Rattle.std.specs.Prelude.{IfSome, Option}
use Rattle.std.specs.List.{AllByRecursion}
use Rattle.event_words.specs.declared.access.Access.{Access}
use Rattle.event_words.specs.Valid.{IsValidAccess}
use Rattle.event_words.proofs.ListItems.{all_push}
use Rattle.unit_core.specs.declared.kept.Kept.{Kept}
use Rattle.unit_core.specs.Submissions.{SubmittedAccess}
use Rattle.unit_core.specs.Places.{submission_in, IsKept, nothing_kept}
use Rattle.unit_core.proofs.SubmissionLists.{submission}

pub kept_valid : (kept : Kept) (u caller : ℕ) (a : Access) → submission_in kept ≡ Some (submission u caller a) → IsValidAccess a → IsKept kept
kept_valid kept u caller a e h = subst (λ (o : Option SubmittedAccess). IfSome o (λ s. IsValidAccess s.access)) (sym e) h

pub all_kept_set : (ws : List Kept) (i : ℕ) (kept : Kept) → AllByRecursion IsKept ws → IsKept kept → AllByRecursion IsKept (set ws i kept)
all_kept_set [] i kept h k = tt
all_kept_set (w ∷ ws) zero kept h k = (k, h.1)
all_kept_set (w ∷ ws) (suc i) kept h k = (h.0, all_kept_set ws i kept h.1 k)

pub all_kept_pushed : (ws : List Kept) → AllByRecursion IsKept ws → AllByRecursion IsKept (ws ++ nothing_kept ∷ [])
all_kept_pushed ws h = all_push IsKept ws nothing_kept h tt
