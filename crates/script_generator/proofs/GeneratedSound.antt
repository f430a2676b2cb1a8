-- A generated script can be run, and is read back from its own text: its sections are valid, it needs few enough
-- events, and its text tells all of each command.
use Rattle.std.proofs.Common.{◌≡◌, ℕ, zero, suc, ◌+◌, ◌*◌, ◌^◌, ◌<◌, ◌≤◌, max, cond, List, [], ◌∷◌, length, map, flat_map, sum_by, refl, sym, ap, ◌∙◌, subst, arith}
use Rattle.std.specs.Prelude.{count_by, nat_le, Bool, true, if◌then◌else◌}
use Rattle.std.proofs.lemmas.Bool.{and_from, le-leb}
use Rattle.std.specs.List.{AllByRecursion, range_with_len}
use Rattle.std.proofs.lemmas.List.Sums.{sum_by-cons}
use Rattle.std.proofs.lemmas.List.FromFn.{length-map-range_with_len}
use Rattle.event_words.specs.declared.shape.Shape.{Shape}
use Rattle.event_words.specs.declared.section.Command.{Command}
use Rattle.event_words.specs.declared.section.Command.TheVariants.{Submit, Judge}
use Rattle.event_words.specs.Valid.{IsValidAccess, IsValidShape, is_narrow}
use Rattle.event_words.specs.Sections.{SectionOf, is_submit, most_events, most_section_events, AreValidCommands, IsValidSection, NamesUnits, NamesOnlyUnits, HasNoRegisterWrites, IsNoRegisterWrite}
use Rattle.event_words.proofs.ValidTests.{valid_shape}
use Rattle.script_reader.specs.Told.{IsToldWhole, TellsWhole}
use Rattle.script_reader.specs.Canonical.{IsToldWholly, IsReadableScript}
use Rattle.script_reader.specs.Scripts.{ScriptOf, IsWellFormedScript, most_from, need_of}
use Rattle.script_generator.specs.GeneratedScripts.{draw, drawn_access, transaction, lane_after, generated_lane, generated_shape, generated_boot, generated_script}

-- ---- accesses

draw_small : (x i : ℕ) → draw x (suc i) < 2 ^ 32
unfolding draw
draw_small x i = omega arith

drawn_valid : (x : ℕ) → x < 2 ^ 32 → IsValidAccess (drawn_access x)
drawn_valid x h = record { rrid = omega arith; shortest = omega arith; longest = omega arith; below_end = omega arith }

-- a drawn access has at most 16 bytes below 2 ^ 32
pub drawn_narrow : (x : ℕ) → is_narrow (drawn_access x) ≡ true
drawn_narrow x =
    and_from (nat_le (drawn_access x).len 64) _ (le-leb (drawn_access x).len 64 (omega arith)) (le-leb ((drawn_access x).addr + (drawn_access x).len) (2 ^ 40) (omega arith))

drawn_once : (x slot : ℕ) → most_events (Submit 0 (drawn_access x) slot) ≡ 1
drawn_once x slot = ap (λ (b : Bool). if b then 1 else 2) (drawn_narrow x)

-- ---- so many transactions of a lane, from a slot on

abbrev steps : ℕ → ℕ → ℕ → List Command
steps x i n = flat_map (transaction x) (range_with_len i n)

steps_long : (x i n : ℕ) → length (steps x i n) ≡ 2 * n
steps_long x i zero = refl
steps_long x i (suc n) = let h = steps_long x (i + 1) n in omega arith

abbrev submits : Command → ℕ
submits c = cond (is_submit c) 1 0

steps_submit : (x i n : ℕ) → count_by is_submit (steps x i n) ≡ n
steps_submit x i zero = refl
steps_submit x i (suc n) =
    omega (arith, sum_by-cons submits (Submit 0 (drawn_access (draw x (suc i))) i) (Judge i ∷ steps x (i + 1) n), sum_by-cons submits (Judge i) (steps x (i + 1) n), steps_submit x (i + 1) n)

steps_events : (x i n : ℕ) → sum_by most_events (steps x i n) ≡ 2 * n
steps_events x i zero = refl
steps_events x i (suc n) =
    omega (arith, sum_by-cons most_events (Submit 0 (drawn_access (draw x (suc i))) i) (Judge i ∷ steps x (i + 1) n), sum_by-cons most_events (Judge i) (steps x (i + 1) n), drawn_once (draw x (suc i)) i, steps_events x (i + 1) n)

steps_valid : (x i n : ℕ) → AreValidCommands i (steps x i n)
steps_valid x i zero = tt
steps_valid x i (suc n) = ((omega arith, drawn_valid (draw x (suc i)) (draw_small x i), refl), (omega arith, steps_valid x (i + 1) n))

steps_named : (x i n : ℕ) → AllByRecursion (NamesUnits 1) (steps x i n)
steps_named x i zero = tt
steps_named x i (suc n) = (omega arith, (tt, steps_named x (i + 1) n))

steps_quiet : (x i n : ℕ) → AllByRecursion IsNoRegisterWrite (steps x i n)
steps_quiet x i zero = tt
steps_quiet x i (suc n) = (tt, (tt, steps_quiet x (i + 1) n))

steps_told : (x i n : ℕ) → AllByRecursion IsToldWhole (steps x i n)
steps_told x i zero = tt
steps_told x i (suc n) = (tt, (tt, steps_told x (i + 1) n))

-- ---- lanes

lane_valid : (count x : ℕ) → count ≤ 4096 → IsValidSection (lane_after count x)
lane_valid count x h = record {
  few = let l = steps_long x 0 count in omega arith;
  slots = sym (steps_submit x 0 count);
  commands = steps_valid x 0 count;
}

generated_valid : (number lane : ℕ) → IsValidSection (generated_lane number lane)
unfolding generated_lane
generated_valid number lane = lane_valid 4096 (draw number (lane * 4096)) (omega arith)

generated_named : (number lane : ℕ) → NamesOnlyUnits 1 (generated_lane number lane)
unfolding generated_lane
generated_named number lane = steps_named (draw number (lane * 4096)) 0 4096

pub generated_quiet : (number lane : ℕ) → HasNoRegisterWrites (generated_lane number lane)
unfolding generated_lane
generated_quiet number lane = steps_quiet (draw number (lane * 4096)) 0 4096

pub generated_told : (number lane : ℕ) → TellsWhole (generated_lane number lane)
unfolding generated_lane
generated_told number lane = steps_told (draw number (lane * 4096)) 0 4096

generated_events : (number lane : ℕ) → most_section_events (generated_lane number lane) ≡ 8192
unfolding generated_lane
generated_events number lane = steps_events (draw number (lane * 4096)) 0 4096

pub each_lane : (P : SectionOf → Type 0) (number i n : ℕ) → ((lane : ℕ) → P (generated_lane number lane)) → AllByRecursion P (map (generated_lane number) (range_with_len i n))
each_lane P number i zero each = tt
each_lane P number i (suc n) each = (each i, each_lane P number (i + 1) n each)

-- ---- the script

most_same : (m : ℕ) (ss : List SectionOf) → AllByRecursion (λ s. most_section_events s ≡ m) ss → most_from m ss ≡ m
most_same m [] h = refl
most_same m (s ∷ ss) h = let e = h.0 in let same : max m (most_section_events s) ≡ m = omega arith in ap (λ k. most_from k ss) same ∙ most_same m ss h.1

most_is : (least number i n : ℕ) → least ≤ 8192 → most_from least (map (generated_lane number) (range_with_len i (suc n))) ≡ 8192
most_is least number i n l =
    let e = generated_events number i in
    let same : max least (most_section_events (generated_lane number i)) ≡ 8192 = omega arith in
    ap (λ k. most_from k (map (generated_lane number) (range_with_len (i + 1) n))) same
    ∙ most_same 8192 (map (generated_lane number) (range_with_len (i + 1) n)) (each_lane (λ s. most_section_events s ≡ 8192) number (i + 1) n (generated_events number))

shape_valid : IsValidShape generated_shape
shape_valid = valid_shape generated_shape refl

boot_valid : IsValidSection generated_boot
boot_valid = record { few = omega arith; slots = refl; commands = ((omega arith, omega arith, omega arith), ((omega arith, omega arith, omega arith), ((omega arith, omega arith, omega arith), ((omega arith, omega arith, omega arith), ((omega arith, omega arith, omega arith), ((omega arith, omega arith, omega arith), ((omega arith, omega arith, omega arith), ((omega arith, omega arith, omega arith), ((omega arith, omega arith, omega arith), ((omega arith, omega arith, omega arith), ((omega arith, omega arith, omega arith), ((omega arith, omega arith, omega arith), ((omega arith, omega arith, omega arith), ((omega arith, omega arith, omega arith), tt)))))))))))))) }

pub need_is : (number : ℕ) → need_of (generated_script number) ≡ 73728
unfolding generated_script
need_is number =
    let few = length-map-range_with_len (generated_lane number) 0 8 in
    let most = most_is (max 1 (most_section_events generated_boot)) number 0 7 (omega arith) in
    ap (λ n. (n + 1) * most_from (max 1 (most_section_events generated_boot)) (map (generated_lane number) (range_with_len 0 8))) few ∙ ap (λ n. 9 * n) most

pub few : (number : ℕ) → need_of (generated_script number) ≤ 1048576
few number = let n = need_is number in omega arith

pub formed : (number : ℕ) → IsWellFormedScript (generated_script number)
unfolding generated_script
formed number = record {
  some_units = omega arith;
  few_units = omega arith;
  shapes = (shape_valid, tt);
  few_lanes = let few = length-map-range_with_len (generated_lane number) 0 8 in omega arith;
  boot = boot_valid;
  boot_units = (omega arith, (omega arith, (omega arith, (omega arith, (omega arith, (omega arith, (omega arith, (omega arith, (omega arith, (omega arith, (omega arith, (omega arith, (omega arith, (omega arith, tt))))))))))))));
  lanes = each_lane IsValidSection number 0 8 (generated_valid number);
  lanes_units = each_lane (NamesOnlyUnits 1) number 0 8 (generated_named number);
}

-- ---- read back

boot_told : TellsWhole generated_boot
boot_told = (tt, (tt, (tt, (tt, (tt, (tt, (tt, (tt, (tt, (tt, (tt, (tt, (tt, (tt, tt))))))))))))))

told : (number : ℕ) → IsToldWholly (generated_script number)
unfolding generated_script
told number = record { boot = boot_told; lanes = each_lane TellsWhole number 0 8 (generated_told number) }

pub readable : (number : ℕ) → IsReadableScript (generated_script number)
readable number = record { formed = formed number; few = few number; whole = told number }

-- so one of these parts
pub readable_parts : (number : ℕ) (shapes : List Shape) (boot : SectionOf) (lanes : List SectionOf) → shapes ≡ generated_shape ∷ [] → boot ≡ generated_boot → lanes ≡ map (generated_lane number) (range_with_len 0 8)
    → (let script : ScriptOf = record { shapes = shapes; boot = boot; lanes = lanes } in IsReadableScript script)
unfolding generated_script
readable_parts number shapes boot lanes p q r =
    let same : (let script : ScriptOf = record { shapes = shapes; boot = boot; lanes = lanes } in script ≡ generated_script number) = cc in
    subst IsReadableScript (sym same) (readable number)
