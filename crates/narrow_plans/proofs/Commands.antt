-- The commands that are pushed one by one are those of a narrow plan, and they make a valid section.
use Rattle.std.proofs.Common.{◌≡◌, ℕ, suc, zero, ◌+◌, ◌^◌, ◌<◌, ◌≤◌, Bool, true, false, cond, None, List, [], ◌∷◌, ◌++◌, map, filter, length, length-append, count_by, arith, refl, sym, ap, ◌∙◌, subst}
use Rattle.std.specs.List.{range_with_len, AllByRecursion}
use Rattle.std.proofs.lemmas.List.{length-map, map-append, append-nil}
use Rattle.std.proofs.lemmas.List.Elements.{filter-append}
use Rattle.event_words.specs.declared.section.Command.{Command}
use Rattle.event_words.specs.declared.section.Command.TheVariants.{Write}
use Rattle.event_words.specs.Registers.{index_count}
use Rattle.event_words.specs.Valid.{IsValidShape}
use Rattle.event_words.specs.Sections.{is_submit, IsMax, AreValidCommands, IsValidSection}
use Rattle.event_words.proofs.Ranges.{range_more}
use Rattle.policy_compiler.specs.declared.image.RegPair.{RegPair}
use Rattle.policy_compiler.specs.Policies.{PolicyOf, IsPolicy}
use Rattle.policy_compiler.specs.Needs.{need_refusal}
use Rattle.policy_compiler.specs.Images.{ImageOf, image_of, pair}
use Rattle.policy_compiler.specs.Commands.{write_command}
use Rattle.update_planner.specs.Plans.{is_rewritten, rewrite, rewrites, rewriting}
use Rattle.update_planner.specs.Gives.{section_with}
use Rattle.update_planner.proofs.Images.{valid_tail}
use Rattle.narrow_plans.specs.BetweenStates.{table_write, table_writes, between_states}
use Rattle.narrow_plans.specs.Unaffected.{is_unaffected, is_affected, affected}
use Rattle.narrow_plans.specs.NarrowPlans.{stall_command, narrow_commands}
use Rattle.narrow_plans.specs.Stalls.{changes_view, stalls}

-- ---- one requester more

stalls_more : (old : ImageOf) (ws : List RegPair) (s : ℕ)
    → stalls old ws (s + 1) ≡ stalls old ws s ++ map stall_command (filter (changes_view old ws) (s ∷ []))
stalls_more old ws s =
    ap (λ is. map stall_command (filter (changes_view old ws) is)) (range_more 0 s s (omega arith))
    ∙ (ap (map stall_command) (filter-append (changes_view old ws) (range_with_len 0 s) (s ∷ []))
    ∙ map-append stall_command (filter (changes_view old ws) (range_with_len 0 s)) (filter (changes_view old ws) (s ∷ [])))

pub one_stalled : (old : ImageOf) (ws : List RegPair) (s : ℕ) → changes_view old ws s ≡ true
    → stalls old ws (s + 1) ≡ stalls old ws s ++ stall_command s ∷ []
one_stalled old ws s t = rw t at (stalls_more old ws s)

pub none_stalled : (old : ImageOf) (ws : List RegPair) (s : ℕ) → changes_view old ws s ≡ false → stalls old ws (s + 1) ≡ stalls old ws s
none_stalled old ws s t = (rw t at (stalls_more old ws s)) ∙ append-nil (stalls old ws s)

-- ---- the table writes

made_writes : (new : ImageOf) (is : List ℕ) → map write_command (map (table_write new) is) ≡ map (rewrite new) is
made_writes new [] = refl
made_writes new (i ∷ is) = ap (λ cs. rewrite new i ∷ cs) (made_writes new is)

same_pair : (w x : RegPair) → write_command w ≡ write_command x → w ≡ x
same_pair w x e =
    let p : (w.index ≡ x.index) × (w.value ≡ x.value) = written w.index x.index w.value x.value e in
    pair_of w.index x.index w.value x.value p.0 p.1
  where
    written : (i j v y : ℕ) → Write 0 i v ≡ Write 0 j y → (i ≡ j) × (v ≡ y)
    written i j v y f = (cc, cc)

    pair_of : (i j v y : ℕ) → i ≡ j → v ≡ y → pair i v ≡ pair j y
    pair_of i j v y f g = rw (f, g) refl

same_pairs : (ws xs : List RegPair) → map write_command ws ≡ map write_command xs → ws ≡ xs
same_pairs [] [] e = refl
same_pairs [] (x ∷ xs) e = absurd (cc)
same_pairs (w ∷ ws) [] e = absurd (cc)
same_pairs (w ∷ ws) (x ∷ xs) e =
    let h : write_command w ≡ write_command x = cc in
    let t : map write_command ws ≡ map write_command xs = cc in
    ap (λ y. y ∷ ws) (same_pair w x h) ∙ ap (λ ys. x ∷ ys) (same_pairs ws xs t)

writes_are : (old new : ImageOf) (ws : List RegPair) → map write_command ws ≡ rewrites old new → ws ≡ table_writes old new
unfolding rewrites table_writes
writes_are old new ws e =
    let is : List ℕ = filter (is_rewritten old new) (range_with_len 0 (index_count new.shape)) in
    same_pairs ws (map (table_write new) is) (e ∙ sym (made_writes new is))

stalls_are : (old new : ImageOf) → stalls old (table_writes old new) old.shape.rrids ≡ map stall_command (affected old new)
unfolding affected is_unaffected between_states
stalls_are old new = refl

pub commands_are : (old new : ImageOf) (polls : ℕ) (ws : List RegPair) (cs : List Command) → map write_command ws ≡ rewrites old new
    → cs ≡ stalls old ws old.shape.rrids ++ rewriting (map write_command ws) polls → cs ≡ narrow_commands old new polls
unfolding narrow_commands
commands_are old new polls ws cs e f =
    let stalled : stalls old ws old.shape.rrids ≡ map stall_command (affected old new) = ap (λ ws. stalls old ws old.shape.rrids) (writes_are old new ws e) ∙ stalls_are old new in
    f ∙ (ap (λ xs. xs ++ rewriting (map write_command ws) polls) stalled ∙ ap (λ xs. map stall_command (affected old new) ++ rewriting xs polls) e)

-- ---- the section

valid_stalls : (is : List ℕ) (rest : List Command) → AllByRecursion (λ s. s < 2 ^ 30) is → AreValidCommands 0 rest
    → AreValidCommands 0 (map stall_command is ++ rest)
valid_stalls [] rest small valid = valid
valid_stalls (s ∷ is) rest small valid = ((omega arith, omega arith, omega (arith, small.0)), valid_stalls is rest small.1 valid)

no_submits : (is : List ℕ) (rest : List Command) → count_by is_submit rest ≡ 0 → count_by is_submit (map stall_command is ++ rest) ≡ 0
no_submits [] rest none = none
no_submits (s ∷ is) rest none = no_submits is rest none

few_stalls : (p : ℕ → Bool) (a n : ℕ)
    → (length (filter p (range_with_len a n)) ≤ n) × (a + n ≤ 2 ^ 30 → AllByRecursion (λ s. s < 2 ^ 30) (filter p (range_with_len a n)))
few_stalls p a zero = (omega arith, λ l. tt)
few_stalls p a (suc n) =
    let rest = few_stalls p (a + 1) n in
    by_case (p a) (filter p (range_with_len (a + 1) n)) rest.0 rest.1
  where
    by_case : (b : Bool) (is : List ℕ) → length is ≤ n → ((a + 1) + n ≤ 2 ^ 30 → AllByRecursion (λ s. s < 2 ^ 30) is)
        → (length (cond b (a ∷ is) is) ≤ suc n) × (a + suc n ≤ 2 ^ 30 → AllByRecursion (λ s. s < 2 ^ 30) (cond b (a ∷ is) is))
    by_case true is few small = (omega arith, λ l. (omega arith, small (omega arith)))
    by_case false is few small = (omega arith, λ l. small (omega arith))

pub valid_narrow : (old new : PolicyOf) (i j : ImageOf) (polls : ℕ) → i ≡ image_of old → j ≡ image_of new → IsPolicy old → IsPolicy new
    → need_refusal new ≡ None → IsMax polls → IsValidSection (section_with (narrow_commands i j polls))
unfolding narrow_commands affected image_of
valid_narrow old new i j polls e f first good fits max =
    let tail = valid_tail new i j polls f good fits max in
    let rrids : i.shape.rrids ≡ old.shape.rrids = ap (λ (x : ImageOf). x.shape.rrids) e in
    let is : List ℕ = filter (is_affected i j) (range_with_len 0 i.shape.rrids) in
    let rest : List Command = rewriting (rewrites i j) polls in
    let few = few_stalls (is_affected i j) 0 i.shape.rrids in
    let known = first.shape.valid.rrids.1 in
    let l = length-append (map stall_command is) rest in
    let m = length-map is stall_command in
    record {
      few = omega (arith, tail.few, few.0);
      slots = sym (no_submits is rest tail.slots);
      commands = valid_stalls is rest (few.1 (omega arith)) tail.all;
    }

pub image_valid : (p : PolicyOf) (i : ImageOf) → i ≡ image_of p → IsPolicy p → IsValidShape i.shape
unfolding image_of
image_valid p i e good = subst (λ (x : ImageOf). IsValidShape x.shape) (sym e) good.shape.valid
