-- One line more.
use Rattle.std.proofs.Common.{◌≡◌, ℕ, ◌+◌, ◌-◌, ◌<◌, ◌≤◌, ◌++◌, List, flat_map, append_assoc, append-nil, refl, sym, ap, ◌∙◌, arith}
use Rattle.std.specs.List.{range_with_len}
use Rattle.event_words.proofs.Ranges.{range_step}
use Rattle.script_generator.specs.Summaries.{denied_line, denied_lines}

pub line_more : (all out next : List ℕ) (code : ℕ) → code < 8 → next ≡ out ++ denied_line all code
    → next ++ flat_map (denied_line all) (range_with_len (code + 1) (8 - (code + 1))) ≡ out ++ flat_map (denied_line all) (range_with_len code (8 - code))
line_more all out next code l e =
    ap (λ t. t ++ flat_map (denied_line all) (range_with_len (code + 1) (8 - (code + 1)))) e
    ∙ append_assoc out (denied_line all code) _
    ∙ ap (λ cs. out ++ flat_map (denied_line all) cs) (sym (range_step code 8 l))

pub no_line_more : (all out : List ℕ) (code : ℕ) → 8 ≤ code → out ++ flat_map (denied_line all) (range_with_len code (8 - code)) ≡ out
no_line_more all out code l =
    let z : 8 - code ≡ 0 = omega arith in
    ap (λ n. out ++ flat_map (denied_line all) (range_with_len code n)) z ∙ append-nil out

pub all_lines : (all old : List ℕ) → old ++ flat_map (denied_line all) (range_with_len 1 (8 - 1)) ≡ old ++ denied_lines all
unfolding denied_lines
all_lines all old = refl
