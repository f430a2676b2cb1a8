-- What verdict codes weigh together, and what the events weigh that reply them.
use Rattle.std.proofs.Common.{◌≡◌, ℕ, ◌+◌, List, [], ◌∷◌, Option, Some, None, sum_by, refl, sym, ap, ◌∙◌, arith}
use Rattle.std.specs.List.{cons_option}
use Rattle.std.proofs.lemmas.List.Sums.{sum_by-cons}
use Rattle.event_words.specs.declared.record.LoggedEvent.{LoggedEvent}
use Rattle.script_generator.specs.Summaries.{entry_code, verdict_codes}

-- what a verdict's code weighs
abbrev pub weight : (ℕ → ℕ) → Option ℕ → ℕ
weight g None = 0
weight g (Some code) = g code

abbrev pub entry_weight : (ℕ → ℕ) → LoggedEvent → ℕ
entry_weight g x = weight g (entry_code x)

pub codes_weight : (g : ℕ → ℕ) (xs : List LoggedEvent) → sum_by g (verdict_codes xs) ≡ sum_by (entry_weight g) xs
codes_weight g [] = refl
codes_weight g (x ∷ xs) = by (entry_code x) (codes_weight g xs) ∙ sym (sum_by-cons (entry_weight g) x xs)
  where
    by : (o : Option ℕ) → sum_by g (verdict_codes xs) ≡ sum_by (entry_weight g) xs → sum_by g (cons_option o (verdict_codes xs)) ≡ weight g o + sum_by (entry_weight g) xs
    by None h = omega (arith, h)
    by (Some code) h = sum_by-cons g code (verdict_codes xs) ∙ ap (λ n. g code + n) h
