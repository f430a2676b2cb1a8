-- A report tells the whole history that it is of.
use Rattle.std.proofs.Common.{◌≡◌, ℕ, suc, ◌+◌, ◌++◌, List, [], ◌∷◌, Option, Some, None, length, drop, flat_map, decimal, codes, refl, sym, ap, subst, ◌∙◌, arith, append_assoc}
use Rattle.std.specs.List.{AllByRecursion}
use Rattle.std.proofs.lemmas.List.{append_cancel_left}
use Rattle.event_words.specs.declared.shape.Shape.{Shape}
use Rattle.event_words.specs.declared.record.LoggedEvent.{LoggedEvent}
use Rattle.event_words.specs.declared.record.SectionEnd.{SectionEnd}
use Rattle.event_words.specs.declared.reply.Reply.{Reply}
use Rattle.event_words.specs.Records.{section_end, events_by}
use Rattle.event_words.specs.Runs.{IsEventWord, logged_from, logged_first}
use Rattle.event_words.specs.Sections.{SectionOf}
use Rattle.event_words.specs.Word.{word_of}
use Rattle.unit_core.specs.Fabrics.{state_after_word, reply_to_word}
use Rattle.unit_core.specs.Histories.{units_after, logged_in}
use Rattle.event_words.specs.ReportLines.{event_line, section_line}
use Rattle.unit_core.specs.Reports.{section_lines, unit_lines}
use Rattle.unit_core.specs.Units.{UnitState, fabric_at_reset}
use Rattle.unit_core.proofs.EventTexts.{line_tells}
use Rattle.event_words.proofs.EventWords.{HasEvent, word_event}
use Rattle.event_words.proofs.Numerals.{BeginsOtherwise, decimal_numeral, number_first, run_end}
use Rattle.history_laws.specs.EqualReports.{LawReports}

-- ---- what follows the lines of events begins with a letter

section_first : (i : ℕ) (o : Option SectionEnd) (xs r : List ℕ) → BeginsOtherwise (xs ++ r)
    → BeginsOtherwise ((section_line i o ++ xs) ++ r)
section_first i None xs r h = h
section_first i (Some end) xs r h = omega arith

sections_first : (events : List LoggedEvent) (i : ℕ) (ss : List SectionOf) (r : List ℕ) → BeginsOtherwise r
    → BeginsOtherwise (section_lines events i ss ++ r)
sections_first events i [] r h = h
sections_first events i (s ∷ ss) r h = section_first i (section_end i s (events_by i events)) _ r (sections_first events (i + 1) ss r h)

units_first : (u : ℕ) (xs : List UnitState) → BeginsOtherwise (unit_lines u xs ++ codes "end\n")
units_first u [] = omega arith
units_first u (x ∷ xs) = omega arith

abbrev ending : List Shape → SectionOf → List SectionOf → List ℕ → List ℕ
ending shapes boot lanes words = section_lines (logged_in shapes words) 0 (boot ∷ lanes) ++ (unit_lines 0 (units_after shapes words) ++ codes "end\n")

ending_first : (shapes : List Shape) (boot : SectionOf) (lanes : List SectionOf) (words : List ℕ)
    → BeginsOtherwise (ending shapes boot lanes words)
ending_first shapes boot lanes words = sections_first (logged_in shapes words) 0 (boot ∷ lanes) _ (units_first 0 (units_after shapes words))

-- ---- the lines of events

module _ {S : Type 0} (after : S → ℕ → ℕ → S) (reply : S → ℕ → ℕ → Reply) where
  -- the lines of words, of which the first stands at the place k
  abbrev lines : ℕ → S → List ℕ → List ℕ
  lines k s words = flat_map event_line (logged_from after reply k s words)

  abbrev entry : (k : ℕ) (s : S) (word : ℕ) → HasEvent word → LoggedEvent
  entry k s word h = record { place = k; event = h.event; reply = reply s k word }

  first_line : (k : ℕ) (s : S) (word : ℕ) (words : List ℕ) (h : HasEvent word) (r : List ℕ)
      → lines k s (word ∷ words) ++ r ≡ event_line (entry k s word h) ++ (lines (suc k) (after s k word) words ++ r)
  first_line k s word words h r =
      ap (λ o. flat_map event_line (logged_first k (reply s k word) o (logged_from after reply (suc k) (after s k word) words)) ++ r) h.back
      ∙ append_assoc (event_line (entry k s word h)) (lines (suc k) (after s k word) words) r

  -- a line begins with its place
  no_more : (k : ℕ) (s : S) (word : ℕ) (words : List ℕ) → IsEventWord word → (r t : List ℕ) → BeginsOtherwise t
      → t ≡ lines k s (word ∷ words) ++ r → ⊥
  no_more k s word words p r t h e =
      let x = entry k s word (word_event word p) in
      number_first k _ (subst BeginsOtherwise (e ∙ first_line k s word words (word_event word p) r ∙ append_assoc (decimal k) _ _) h)

  lines_tell : (k : ℕ) (s : S) (v w : List ℕ) → AllByRecursion IsEventWord v → AllByRecursion IsEventWord w → (r t : List ℕ)
      → BeginsOtherwise r → BeginsOtherwise t
      → lines k s v ++ r ≡ lines k s w ++ t → v ≡ w
  lines_tell k s [] [] p q r t f g e = refl
  lines_tell k s [] (y ∷ w) p q r t f g e = absurd (no_more k s y w q.0 t r f e)
  lines_tell k s (x ∷ v) [] p q r t f g e = absurd (no_more k s x v p.0 r t g (sym e))
  lines_tell k s (x ∷ v) (y ∷ w) p q r t f g e =
      let a = word_event x p.0 in
      let b = word_event y q.0 in
      let events = line_tells (entry k s x a) (entry k s y b) refl a.valid b.valid _ _ (sym (first_line k s x v a r) ∙ e ∙ first_line k s y w b t) in
      let words : x ≡ y = a.is ∙ ap word_of events ∙ sym b.is in
      let aligned = subst (λ n. lines k s (x ∷ v) ++ r ≡ lines k s (n ∷ w) ++ t) (sym words) e in
      let rest = append_cancel_left (event_line (entry k s x a)) _ _ (sym (first_line k s x v a r) ∙ aligned ∙ first_line k s x w a t) in
      ap (λ n. n ∷ v) words ∙ ap (λ ns. y ∷ ns) (lines_tell (suc k) (after s k x) v w p.1 q.1 r t f g rest)

-- ---- a report

pub law_reports : LawReports
law_reports shapes boot lanes v w p q e =
    let heading = run_end 10 (decimal (length v)) (decimal (length w)) 10 10 _ _ (decimal_numeral (length v)).1 (decimal_numeral (length w)).1 (omega arith) (omega arith) (ap (drop 7) e) in
    lines_tell state_after_word reply_to_word 0 (fabric_at_reset shapes) v w p q (ending shapes boot lanes v) (ending shapes boot lanes w)
    (ending_first shapes boot lanes v) (ending_first shapes boot lanes w) (ap (drop 1) heading.1)
