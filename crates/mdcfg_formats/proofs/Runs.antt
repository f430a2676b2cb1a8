-- The entries of a domain lie between the ends that a walk over the domains finds.
use Rattle.std.proofs.Common.{◌≡◌, ℕ, ◌+◌, ◌<◌, ◌≤◌, ◌↔◌, false, ltb, Some, None, min, max, arith, sym, subst}
use Rattle.std.proofs.lemmas.Bool.{ltb-true}
use Rattle.std.proofs.lemmas.Bool.Decides.{nat_tests}
use Rattle.event_words.specs.Registers.{Registers}
use Rattle.event_words.specs.Domains.{bound_of, is_bounded_by, owner_of}
use Rattle.event_words.proofs.Cases.{by_test}
use Rattle.event_words.proofs.Ranges.{find_none}
use Rattle.mdcfg_formats.proofs.Searches.{first_of_find, find_of_first}

-- No entry from `from` on, below a limit, belongs to a domain below d.
abbrev pub IsStart : Registers → ℕ → ℕ → ℕ → Type 0
IsStart r limit d from = (j m : ℕ) → from ≤ j → j < limit → m < d → bound_of r m ≤ j

-- The entries of a run belong to one domain.
abbrev pub IsRun : Registers → ℕ → ℕ → ℕ → Type 0
IsRun r d from to = (j : ℕ) → from ≤ j → j < to → owner_of r j ≡ Some d

pub start_first : (r : Registers) (limit from : ℕ) → IsStart r limit 0 from
start_first r limit from j m h l s = absurd (omega arith)

-- an entry that is below the bound of d and of no lesser domain
pub owner_here : (r : Registers) (d j : ℕ) → d < r.shape.domains → j < bound_of r d → ((m : ℕ) → m < d → bound_of r m ≤ j) → owner_of r j ≡ Some d
owner_here r d j h l all = find_of_first (is_bounded_by r j) 0 r.shape.domains d ((let x : j < bound_of r d = l in grind (arith, nat_tests)), λ m x y. (let l : bound_of r m ≤ j = all m y in grind (arith, nat_tests))) (omega arith) (omega arith)

pub run_here : (r : Registers) (limit d from to : ℕ) → d < r.shape.domains → IsStart r limit d from → to ≡ max from (min (bound_of r d) limit) → IsRun r d from to
run_here r limit d from to h start e j f t =
    owner_here r d j h (omega arith) (λ m l. start j m f (omega arith) l)

pub start_more : (r : Registers) (limit d from to : ℕ) → IsStart r limit d from → to ≡ max from (min (bound_of r d) limit) → IsStart r limit (d + 1) to
start_more r limit d from to start e j m f t l = by_test (ltb m d) _
    (λ b. start j m (omega arith) t (ltb-true m d b))
    (λ b. let x : m ≡ d = grind (arith, nat_tests) in subst (λ k. bound_of r k ≤ j) (sym x) (omega arith))

-- after the last domain, the entries that are left belong to none
pub run_none : (r : Registers) (limit d from : ℕ) → r.shape.domains ≤ d → IsStart r limit d from → (j : ℕ) → from ≤ j → j < limit → owner_of r j ≡ None
run_none r limit d from h start j f t =
    find_none (is_bounded_by r j) 0 r.shape.domains (λ m x y. let l : bound_of r m ≤ j = start j m f t (omega arith) in grind (arith, nat_tests))

-- where the domains below d end, no lesser number does
abbrev pub IsLeast : Registers → ℕ → ℕ → ℕ → Type 0
IsLeast r limit d from = (j : ℕ) → j < limit → ((m : ℕ) → m < d → bound_of r m ≤ j) → from ≤ j

pub least_more : (r : Registers) (limit d from to : ℕ) → IsLeast r limit d from → to ≡ max from (min (bound_of r d) limit) → IsLeast r limit (d + 1) to
least_more r limit d from to least e j t all =
    let x = all d (omega arith) in
    let y = least j t (λ m h. all m (omega arith)) in
    omega arith

-- exactly the entries of the span are the domain's
pub span_exact : (r : Registers) (d k from to : ℕ) → d < r.shape.domains → k ≡ d → IsStart r r.shape.entries k from → IsLeast r r.shape.entries k from → to ≡ max from (min (bound_of r d) r.shape.entries)
    → (j : ℕ) → j < r.shape.entries → (owner_of r j ≡ Some d) ↔ ((from ≤ j) × (j < to))
span_exact r d k from to h s start least e j l = (
  (λ o.
      let f = first_of_find (is_bounded_by r j) 0 r.shape.domains d o in
      let b : j < bound_of r d = ltb-true j (bound_of r d) f.0.0 in
      (least j l (λ m x. let y : ltb j (bound_of r m) ≡ false = f.0.1 m (omega arith) (omega arith) in grind (arith, nat_tests)), omega arith)),
  (λ q. run_here r r.shape.entries d from to h (subst (λ n. IsStart r r.shape.entries n from) s start) e j q.0 q.1),
)

pub span_none : (r : Registers) (d from to : ℕ) → to ≤ from → ((j : ℕ) → j < r.shape.entries → (owner_of r j ≡ Some d) ↔ ((from ≤ j) × (j < to)))
    → (j : ℕ) → j < r.shape.entries → (owner_of r j ≡ Some d) ↔ ((0 ≤ j) × (j < 0))
span_none r d from to h all j l = (
  (λ o. let y = (all j l).0 o in absurd (omega arith)),
  (λ q. absurd (omega arith)),
)
