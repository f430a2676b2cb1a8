-- The first transactions of the script of number 0, and what its tables decide on three of them.
use Rattle.std.proofs.Common.{◌≡◌, ℕ, [], ◌∷◌, map, refl}
use lib.Count
use Rattle.event_words.specs.declared.access.Access.{Access}
use Rattle.event_words.specs.declared.access.Kind.{Kind}
use Rattle.event_words.specs.declared.access.Kind.TheVariants.{Read, Write, Fetch}
use Rattle.event_words.specs.Registers.{at_reset}
use Rattle.event_words.specs.Decisions.{decision}
use Rattle.policy_compiler.specs.Laws.{after_writes, kind_of}
use Rattle.script_generator.specs.GeneratedScripts.{draw, drawn_access, generated_shape, boot_writes}

abbrev access : ℕ → Kind → ℕ → ℕ → Access
access rrid kind addr len = record { rrid = rrid; kind = kind; addr = addr; len = len }

first_five : map (λ i. drawn_access (draw 0 i)) (1 ∷ 2 ∷ 3 ∷ 4 ∷ 5 ∷ [])
    ≡ access 0 Read 0x80006ef3 13 ∷ access 1 Read 0x80005029 8 ∷ access 3 Write 0x8000ccf6 2 ∷ access 2 Fetch 0x8000f953 11 ∷ access 1 Fetch 0x800052e5 3 ∷ []
unfolding draw
first_five = refl

-- Two are allowed, and the third is of a requester that isn't known.
first_three : map (λ i. kind_of (decision (after_writes (at_reset generated_shape) boot_writes) (drawn_access (draw 0 i)))) (1 ∷ 2 ∷ 3 ∷ []) ≡ 0 ∷ 0 ∷ 6 ∷ []
unfolding draw lib.Count.count_trailing_zeros
first_three = refl
