-- The most events of sections, one section after another, and the length of a list as a sum.
use Rattle.std.proofs.Common.{◌≡◌, ℕ, ◌+◌, ◌*◌, ◌^◌, ◌<◌, ◌≤◌, max, List, [], ◌∷◌, length, get_or, drop, ap, arith, sum_by, refl}
use Rattle.std.proofs.lemmas.List.Sums.{sum_by-cons}
use Rattle.std.proofs.lemmas.List.{drop_more, drop_all}
use Rattle.std.specs.List.{AllByRecursion}
use Rattle.event_words.specs.Sections.{SectionOf, IsValidSection, most_section_events}
use Rattle.event_words.proofs.Sections.{events_bound}
use Rattle.script_reader.specs.Scripts.{most_from, HasAtMost}

pub events_few : (section : SectionOf) → IsValidSection section → most_section_events section ≤ 2 ^ 40
events_few section valid = let few = valid.few in omega (arith, events_bound 0 section.commands valid.commands)

-- a list is as long as a 1 for each item
pub length_sum : {X : Type 0} (xs : List X) → length xs ≡ sum_by (λ x. 1) xs
length_sum [] = refl
length_sum (x ∷ xs) = omega (arith, sum_by-cons (λ y. 1) x xs, length_sum xs)

pub at_least : (n : ℕ) (ss : List SectionOf) → n ≤ most_from n ss
at_least n [] = omega arith
at_least n (s ∷ ss) = let h = at_least (max n (most_section_events s)) ss in omega (arith, h)

pub each_within : (n : ℕ) (ss : List SectionOf) → AllByRecursion (HasAtMost (most_from n ss)) ss
each_within n [] = tt
each_within n (s ∷ ss) = (let h = at_least (max n (most_section_events s)) ss in omega (arith, h), each_within (max n (most_section_events s)) ss)

pub most_step : (n : ℕ) (sections : List SectionOf) (i : ℕ) (d : SectionOf) → i < length sections → most_from n (drop i sections) ≡ most_from (max n (most_section_events (get_or sections i d))) (drop (i + 1) sections)
most_step n sections i d h = ap (most_from n) (drop_more sections i d h)

pub most_end : (n : ℕ) (sections : List SectionOf) (i : ℕ) → length sections ≤ i → most_from n (drop i sections) ≡ n
most_end n sections i h = ap (most_from n) (drop_all i sections h)

pub most_fits : (lanes most : ℕ) → lanes ≤ 16 → most ≤ 2 ^ 40 → (lanes + 1) * most ≤ 17 * 2 ^ 40
most_fits lanes most few bound = grind arith
