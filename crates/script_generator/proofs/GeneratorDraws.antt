-- One transaction, and one lane, more.
use Rattle.std.proofs.Common.{◌≡◌, ℕ, zero, suc, ◌+◌, ◌*◌, ◌++◌, List, [], ◌∷◌, flat_map, map, append_assoc, append-nil, refl, sym, ap, ◌∙◌, add-one, arith}
use Rattle.std.specs.List.{range_with_len}
use Rattle.std.proofs.lemmas.Grind.{flat_map-append}
use Rattle.std.proofs.lemmas.List.{map-append}
use Rattle.event_words.specs.declared.section.Command.{Command}
use Rattle.event_words.specs.declared.section.Command.TheVariants.{Submit, Judge}
use Rattle.event_words.specs.Sections.{SectionOf}
use Rattle.event_words.proofs.Ranges.{range_more}
use Rattle.script_generator.specs.GeneratedScripts.{next_draw, draw, drawn_access, transaction, lane_after, generated_lane}

pub draw_none : (x : ℕ) → draw x 0 ≡ x
unfolding draw
draw_none x = refl

pub draw_next : (x i : ℕ) → draw x (i + 1) ≡ next_draw (draw x i)
unfolding draw
draw_next x i = ap (draw x) (add-one i)

-- Draws after a draw go on with the draws.
pub draw_on : (x a b : ℕ) → draw (draw x a) b ≡ draw x (a + b)
unfolding draw
draw_on x a zero = let e : a ≡ a + 0 = omega arith in ap (draw x) e
draw_on x a (suc b) = let e : suc (a + b) ≡ a + suc b = omega arith in ap next_draw (draw_on x a b) ∙ ap (draw x) e

pub more_commands : (x slot last : ℕ) (cs : List Command) → last ≡ draw x slot → cs ≡ flat_map (transaction x) (range_with_len 0 slot)
    → (cs ++ Submit 0 (drawn_access (next_draw last)) slot ∷ []) ++ Judge slot ∷ [] ≡ flat_map (transaction x) (range_with_len 0 (slot + 1))
unfolding draw
more_commands x slot last cs d e =
    append_assoc cs _ _
    ∙ ap (λ n. cs ++ Submit 0 (drawn_access (next_draw n)) slot ∷ Judge slot ∷ []) d
    ∙ ap (λ l. l ++ transaction x slot) e
    ∙ sym (ap (flat_map (transaction x)) (range_more 0 slot slot (omega arith)) ∙ flat_map-append (transaction x) (range_with_len 0 slot) (slot ∷ []) ∙ ap (λ l. flat_map (transaction x) (range_with_len 0 slot) ++ l) (append-nil (transaction x slot)))

-- where all slots are taken
pub whole_lane : (count x slot : ℕ) (cs : List Command) → cs ≡ flat_map (transaction x) (range_with_len 0 slot) → slot ≡ count → (let s : SectionOf = record { commands = cs; slots = count } in s ≡ lane_after count x)
whole_lane count x slot cs e q = ap (λ l. let s : SectionOf = record { commands = l; slots = count } in s) (e ∙ ap (λ n. flat_map (transaction x) (range_with_len 0 n)) q)

pub more_lanes : (number lane last : ℕ) (ss : List SectionOf) (s : SectionOf) → last ≡ draw number (lane * 4096) → s ≡ lane_after 4096 last → ss ≡ map (generated_lane number) (range_with_len 0 lane)
    → ss ++ s ∷ [] ≡ map (generated_lane number) (range_with_len 0 (lane + 1))
unfolding generated_lane
more_lanes number lane last ss s d e h =
    ap (λ l. l ++ s ∷ []) h
    ∙ ap (λ t. map (generated_lane number) (range_with_len 0 lane) ++ t ∷ []) (e ∙ ap (lane_after 4096) d)
    ∙ sym (ap (map (generated_lane number)) (range_more 0 lane lane (omega arith)) ∙ map-append (generated_lane number) (range_with_len 0 lane) (lane ∷ []))
