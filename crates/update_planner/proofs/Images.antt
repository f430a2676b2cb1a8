-- The images of two policies that fit one unit write its registers, and their plan is valid.
use Rattle.std.proofs.Common.{◌≡◌, ℕ, None, List, [], ◌∷◌, arith, sym, ap, ◌≤◌, ◌∙◌, subst, Option, Some, Ok, Err}
use Rattle.std.specs.List.{AllByRecursion}
use Rattle.event_words.specs.declared.shape.Shape.{Shape}
use Rattle.event_words.specs.Registers.{index_count}
use Rattle.event_words.specs.Sections.{IsMax, IsValidSection}
use Rattle.policy_compiler.proofs.Decisive.{image_shape}
use Rattle.policy_compiler.specs.declared.image.RegPair.{RegPair}
use Rattle.policy_compiler.specs.Policies.{PolicyOf, IsPolicy}
use Rattle.policy_compiler.specs.Images.{ImageOf, image_of}
use Rattle.policy_compiler.specs.Needs.{need_refusal}
use Rattle.policy_compiler.proofs.Puts.{AreWithin}
use Rattle.policy_compiler.proofs.Within.{AreWords, image_within, image_words}
use Rattle.update_planner.specs.declared.answer.PlanError.{PlanError}
use Rattle.update_planner.specs.Plans.{rewrites, rewriting, plan_commands}
use Rattle.update_planner.specs.Values.{IsOfUnit, WritesUnit}
use Rattle.update_planner.specs.Gives.{section_with, GivesImages}
use Rattle.update_planner.proofs.Sections.{IsValidTail, valid_rewriting, valid_plan, most_indexes}

of_unit : (h : Shape) (ws : List RegPair) → AreWithin 0 (index_count h) ws → AllByRecursion (IsOfUnit h) ws
of_unit h [] all = tt
of_unit h (w ∷ ws) all = (all.0.1, of_unit h ws all.1)

pub unit_writes : (old new : PolicyOf) (i j : ImageOf) → i ≡ image_of old → j ≡ image_of new → IsPolicy old → need_refusal old ≡ None
    → old.shape ≡ new.shape → WritesUnit j.shape i
unit_writes old new i j e f good fits same =
    let own : WritesUnit old.shape (image_of old) = of_unit old.shape (image_of old).writes (image_within old good fits) in
    let shape : old.shape ≡ j.shape = same ∙ (sym (image_shape new) ∙ ap (λ (x : ImageOf). x.shape) (sym f)) in
    subst (λ x. WritesUnit j.shape x) (sym e) (subst (λ h. WritesUnit h (image_of old)) shape own)

shape_at : (new : PolicyOf) (j : ImageOf) → j ≡ image_of new → IsPolicy new → index_count j.shape ≤ most_indexes
shape_at new j f good =
    let shape : j.shape ≡ new.shape = ap (λ (x : ImageOf). x.shape) f ∙ image_shape new in
    let entries : j.shape.entries ≡ new.shape.entries = ap (λ (x : Shape). x.entries) shape in
    let few = good.shape.valid.entries in
    omega arith

words_at : (new : PolicyOf) (j : ImageOf) → j ≡ image_of new → IsPolicy new → need_refusal new ≡ None → AreWords j.writes
words_at new j f good fits = subst (λ (x : ImageOf). AreWords x.writes) (sym f) (image_words new good fits)

-- images that are given are those that are wanted
pub images_given : (o : Option PlanError) (old new i j : ImageOf) → GivesImages o (Ok (old, new)) i j → (old ≡ i) × (new ≡ j)
images_given None old new i j given = given
images_given (Some e) old new i j given = absurd (let n : Ok (old, new) ≡ Err e = given in cc)

-- from the drained reading on
pub valid_tail : (new : PolicyOf) (i j : ImageOf) (polls : ℕ) → j ≡ image_of new → IsPolicy new → need_refusal new ≡ None → IsMax polls
    → IsValidTail (rewriting (rewrites i j) polls)
valid_tail new i j polls f good fits max =
    valid_rewriting i j polls max (shape_at new j f good) (words_at new j f good fits)

pub valid_between : (new : PolicyOf) (i j : ImageOf) (polls : ℕ) → j ≡ image_of new → IsPolicy new → need_refusal new ≡ None → IsMax polls
    → IsValidSection (section_with (plan_commands i j polls))
valid_between new i j polls f good fits max =
    valid_plan i j polls max (shape_at new j f good) (words_at new j f good fits)
