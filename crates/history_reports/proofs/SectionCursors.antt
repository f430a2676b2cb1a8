-- Cursors of sections, one event at a time.
use Rattle.std.proofs.Common.{◌≡◌, ◌+◌, ◌<◌, ◌≤◌, ◌++◌, ℕ, zero, suc, List, [], ◌∷◌, length, get_or, set, refl, sym, ap, ◌∙◌, arith}
use Rattle.event_words.specs.declared.record.LoggedEvent.{LoggedEvent}
use Rattle.event_words.specs.Events.{caller_of}
use Rattle.event_words.specs.Sections.{SectionOf}
use Rattle.event_words.specs.Records.{section_end, events_by}
use Rattle.event_words.proofs.OwnEvents.{own, foreign, is_own, is_below, is_above}
use Rattle.section_cursor.specs.Cursors.{CursorOf, rest_end}
use Rattle.section_cursor.specs.Fresh.{AreFresh}
use Rattle.event_words.specs.ReportLines.{section_line}
use Rattle.unit_core.specs.Reports.{section_lines}
use Rattle.history_reports.specs.SectionEnds.{section_ends, cursor_ends, end_lines}

both : {A : Type 0} (a b : A) (xs ys : List A) → a ≡ b → xs ≡ ys → a ∷ xs ≡ b ∷ ys
both a b xs ys p q = cc

others_after : (cs : List CursorOf) (i : ℕ) (x : LoggedEvent) (left : List LoggedEvent) → caller_of x.event < i → cursor_ends i cs left ≡ cursor_ends i cs (x ∷ left)
others_after [] i x left h = refl
others_after (c ∷ cs) i x left h =
    both _ _ _ _ (ap (λ ys. rest_end c ys) (sym (foreign i x left (is_below i x h)))) (others_after cs (i + 1) x left (omega arith))

-- the event goes to the cursor of its caller
pub noted : (cs : List CursorOf) (i n : ℕ) (d new : CursorOf) (x : LoggedEvent) (left : List LoggedEvent) → caller_of x.event ≡ i + n → n < length cs
    → ((xs : List LoggedEvent) → rest_end new xs ≡ rest_end (get_or cs n d) (x ∷ xs)) → cursor_ends i (set cs n new) left ≡ cursor_ends i cs (x ∷ left)
noted [] i n d new x left h k r = absurd (omega arith)
noted (c ∷ cs) i zero d new x left h k r =
    both _ _ _ _ (r (events_by i left) ∙ ap (λ ys. rest_end c ys) (sym (own i x left (is_own i x (omega arith))))) (others_after cs (i + 1) x left (omega arith))
noted (c ∷ cs) i (suc n) d new x left h k r =
    both _ _ _ _ (ap (λ ys. rest_end c ys) (sym (foreign i x left (is_above i x (omega arith))))) (noted cs (i + 1) n d new x left (omega arith) (omega arith) r)

-- the event is nobody's
pub unnoted : (cs : List CursorOf) (i : ℕ) (x : LoggedEvent) (left : List LoggedEvent) → i + length cs ≤ caller_of x.event → cursor_ends i cs left ≡ cursor_ends i cs (x ∷ left)
unnoted [] i x left h = refl
unnoted (c ∷ cs) i x left h =
    both _ _ _ _ (ap (λ ys. rest_end c ys) (sym (foreign i x left (is_above i x (omega arith))))) (unnoted cs (i + 1) x left (omega arith))

-- ---- before the first event

pub ends_of_fresh : (cs : List CursorOf) (ss : List SectionOf) (i : ℕ) (xs : List LoggedEvent) → AreFresh i cs ss → cursor_ends i cs xs ≡ section_ends i ss xs
ends_of_fresh [] [] i xs f = refl
ends_of_fresh (c ∷ cs) (s ∷ ss) i xs f = both _ _ _ _ (f.0.whole (events_by i xs)) (ends_of_fresh cs ss (i + 1) xs f.1)
ends_of_fresh [] (s ∷ ss) i xs f = absurd f
ends_of_fresh (c ∷ cs) [] i xs f = absurd f

-- ---- lines

-- the lines of the ends are the lines of the sections
pub lines_of_ends : (ss : List SectionOf) (i : ℕ) (xs : List LoggedEvent) → end_lines i (section_ends i ss xs) ≡ section_lines xs i ss
lines_of_ends [] i xs = refl
lines_of_ends (s ∷ ss) i xs = ap (λ t. section_line i (section_end i s (events_by i xs)) ++ t) (lines_of_ends ss (i + 1) xs)
