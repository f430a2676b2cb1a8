-- A history has no more events than its callers may make.
use Rattle.std.proofs.Common.{◌≡◌, ℕ, zero, suc, ◌+◌, ◌*◌, ◌<◌, ◌≤◌, List, [], length, ap, subst, ◌∙◌, arith, add-one, ⊎_elim}
use Rattle.std.proofs.lemmas.Bool.{cases_lt}
use Rattle.std.specs.Prelude.{slice_index_or}
use Rattle.shared_log.specs.Words.{words_by}
use Rattle.shared_log.specs.Callers.{SharedView, Belongs}
use Rattle.shared_log.specs.Histories.{HoldsCaller}
use Rattle.shared_log.proofs.Counting.{at_most}
use Rattle.checker_workers.specs.Ports.{PortView}

own_within : (shared : SharedView) (history : List ℕ) (c : PortView) → Belongs c shared → HoldsCaller history c → length (words_by c.number history) ≤ shared.budget
own_within shared history c belongs holds = let b = holds.budget in let is = belongs.2 in omega (arith, b, is)

module _ (shared : SharedView) (history : List ℕ) (first : PortView) (rest : List PortView) where
  -- the callers of a history, by their numbers
  pub record AreItsCallers : Type 0 where
    pub belongs : Belongs first shared
    pub number : first.number ≡ 0
    pub holds : HoldsCaller history first
    pub are : (k : ℕ) (d : PortView) → k < length rest → Belongs (slice_index_or rest k d) shared × ((slice_index_or rest k d).number ≡ k + 1)
    pub hold : (k : ℕ) (d : PortView) → k < length rest → HoldsCaller history (slice_index_or rest k d)
    pub others : (c : ℕ) → length rest < c → words_by c history ≡ []

  each_within : AreItsCallers → (c : ℕ) → length (words_by c history) ≤ shared.budget
  each_within all zero = subst (λ n. length (words_by n history) ≤ shared.budget) all.number (own_within shared history first all.belongs all.holds)
  each_within all (suc k) = ⊎_elim
      (λ (lt : k < length rest).
      let is = all.are k first lt in
      subst (λ n. length (words_by n history) ≤ shared.budget) (is.1 ∙ add-one k) (own_within shared history (slice_index_or rest k first) is.0 (all.hold k first lt)))
      (λ (no : length rest ≤ k). let none = ap length (all.others (suc k) (omega arith)) in omega (arith, none))
      (cases_lt k (length rest))

  pub few_events : AreItsCallers → length history ≤ (length rest + 1) * shared.budget
  few_events all = at_most (length rest + 1) shared.budget history (λ c h. all.others c (omega arith)) (each_within all)
