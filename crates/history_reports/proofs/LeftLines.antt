-- One unit's line more.
use Rattle.std.proofs.Common.{◌≡◌, ℕ, suc, ◌+◌, ◌-◌, ◌<◌, ◌++◌, List, [], length, get_or, arith, sym, ap, ◌∙◌}
use Rattle.std.proofs.lemmas.List.{append_assoc}
use Rattle.std.proofs.lemmas.List.FromFn.{get_or-map-range_with_len}
use Rattle.unit_core.specs.Histories.{History}
use Rattle.fault_windows.specs.Monitors.{MonitorOf, HasSeen}
use Rattle.fault_windows.specs.Windows.{pending_at}
use Rattle.history_reports.specs.WindowLines.{left_text, left_line, left_lines}

pub pending_is : (h : History) (k u : ℕ) (m : MonitorOf) → HasSeen h k m → u < 4 → get_or m.pending u [] ≡ pending_at h u k
pending_is h k u m seen l =
    ap (λ ps. get_or ps u []) seen.pending ∙ get_or-map-range_with_len (λ u. pending_at h u k) 0 4 u u [] l (omega arith)

pub left_more : (h : History) (k u n count : ℕ) (m : MonitorOf) (start before after : List ℕ) → u < n → n < 5 → HasSeen h k m → count ≡ length (get_or m.pending u [])
    → after ≡ before ++ left_text u count
    → before ++ left_lines h k u (n - u) ≡ start ++ left_lines h k 0 n → after ++ left_lines h k (u + 1) (n - (u + 1)) ≡ start ++ left_lines h k 0 n
left_more h k u n count m start before after l few seen c written so_far =
    let e : n - u ≡ suc (n - (u + 1)) = omega arith in
    let line : left_text u count ≡ left_line h k u = ap (left_text u) (c ∙ ap length (pending_is h k u m seen (omega arith))) in
    ap (λ t. t ++ left_lines h k (u + 1) (n - (u + 1))) (written ∙ ap (λ t. before ++ t) line)
    ∙ (append_assoc before (left_line h k u) (left_lines h k (u + 1) (n - (u + 1))) ∙ (ap (λ j. before ++ left_lines h k u j) (sym e) ∙ so_far))
