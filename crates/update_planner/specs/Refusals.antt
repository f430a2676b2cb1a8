-- Why there is no plan from one policy to another.
use Rattle.std.specs.Prelude.{◌≡◌, ℕ, ◌==◌, not, Bool, true, false, List, [], ◌∷◌, Option, Some, position}
use Rattle.std.specs.Option.{option_map, option_or, option_eq}
use Rattle.std.specs.Bool.{nat_eq}
use Rattle.event_words.specs.declared.shape.Shape.{Shape}
use Rattle.event_words.specs.Registers.{count_of_bool}
use Rattle.policy_compiler.specs.Policies.{PolicyOf}
use Rattle.policy_compiler.specs.Needs.{need_refusal}
use Rattle.update_planner.specs.declared.answer.PlanError.{PlanError}
use Rattle.update_planner.specs.declared.answer.PlanError.TheVariants.{ShapesDiffer, Compile}

-- whether two shapes have the same, field by field in the order of the fields
abbrev pub same_fields : Shape → Shape → List Bool
same_fields old new =
    (old.rrids == new.rrids)
    ∷ (old.domains == new.domains)
    ∷ (old.entries == new.entries)
    ∷ (old.mdcfg == new.mdcfg)
    ∷ (old.k == new.k)
    ∷ (old.srcmd == new.srcmd)
    ∷ (count_of_bool old.sps == count_of_bool new.sps)
    ∷ (old.queue == new.queue)
    ∷ option_eq nat_eq old.transl new.transl
    ∷ []

-- the number from 0 of the first field that differs
abbrev pub different_field : Shape → Shape → Option ℕ
different_field old new = position not (same_fields old new)

-- a policy that needs more than its unit has
abbrev pub need_error : Bool → PolicyOf → Option PlanError
need_error newer p = option_map (Compile newer) (need_refusal p)

-- The shapes come first, then what the old policy needs, then what the new one does.
unfoldable pub plan_refusal : PolicyOf → PolicyOf → Option PlanError
plan_refusal old new =
    option_or (option_map ShapesDiffer (different_field old.shape new.shape)) (option_or (need_error false old) (need_error true new))

-- the refusal of shapes that differ
abbrev pub IsShapesDiffer : Option PlanError → Type 0
IsShapesDiffer refusal = (field : ℕ) × (refusal ≡ Some (ShapesDiffer field))
