-- Which first lines are good.
use Rattle.std.proofs.Common.{◌≡◌, ◌⊎◌, ℕ, zero, suc, ◌+◌, ◌<◌, ◌≤◌, ◌^◌, ◌++◌, List, [], ◌∷◌, length, map, take, drop, decimal, codes, refl, sym, ap, subst, ◌∙◌, arith, inl, inr, zero-add, length-append}
use Rattle.std.specs.List.{AllByRecursion}
use Rattle.event_words.specs.declared.record.LoggedEvent.{LoggedEvent}
use Rattle.event_words.specs.Word.{word_of}
use Rattle.event_words.specs.Runs.{IsEventWord}
use Rattle.event_words.proofs.Numerals.{decimal_numeral, run_end, decimal_tells}
use Rattle.section_cursor.specs.Cursors.{CursorOf}
use Rattle.unit_core.specs.Units.{FabricState, fabric_at_reset}
use Rattle.unit_core.specs.Fabrics.{state_after_word, reply_to_word}
use Rattle.unit_core.specs.Histories.{logged_in, units_after}
use Rattle.event_words.specs.ReportLines.{count_line, event_line}
use Rattle.script_reader.specs.Scripts.{ScriptOf, need_of}
use Rattle.script_reader.specs.ReportTexts.{fed_lines}
use Rattle.audit_reader.specs.Beginnings.{IsLegalSoFar}
use Rattle.audit_reader.specs.ReportLines.{report_lines, end_lines, error_lines}
use Rattle.audit_reader.specs.Audits.{HasGoodLines}
use Rattle.audit_reader.specs.Following.{IsSeen, IsNext, ListsNone, AreRead, IsFound, entry_after, state_after}
use Rattle.audit_reader.proofs.OneMore.{seen_begins, logged_more}
use Rattle.audit_reader.proofs.EqualLines.{first_same, rest_same, as_many_lines, line_after}

pub take_front : {A : Type 0} (xs ys zs : List A) (n : ℕ) → length xs ≡ n → take n (xs ++ ys) ≡ take n (xs ++ zs)
take_front [] ys zs zero h = refl
take_front [] ys zs (suc n) h = absurd (omega (arith, h))
take_front (x ∷ xs) ys zs zero h = refl
take_front (x ∷ xs) ys zs (suc n) h = ap (λ l. x ∷ l) (take_front xs ys zs n (omega (arith, h)))

counted : (m n : ℕ) → count_line m ≡ count_line n → decimal m ≡ decimal n
counted m n e =
    (run_end 10 (decimal m) (decimal n) 10 10 [] [] (decimal_numeral m).1 (decimal_numeral n).1 (omega arith) (omega arith) (ap (drop 7) e)).0

pub counts_same : (m n : ℕ) → m < 2 ^ 64 → n < 2 ^ 64 → count_line m ≡ count_line n → m ≡ n
counts_same m n p q e = (decimal_tells m n p q [] [] (ap (λ ds. ds ++ codes " ") (counted m n e))).0

-- the lines after those of the events
abbrev pub last_lines : ScriptOf → List ℕ → List (List ℕ)
last_lines script words = end_lines (logged_in script.shapes words) 0 (script.boot ∷ script.lanes) ++ (error_lines 0 (units_after script.shapes words) ++ codes "end\n" ∷ [])

pub event_lines_count : (script : ScriptOf) (words : List ℕ) (state : FabricState) (cs : List CursorOf) → IsSeen script words state cs → length (map event_line (logged_in script.shapes words)) ≡ length words
event_lines_count script words state cs s = as_many_lines state_after_word reply_to_word 0 (fabric_at_reset script.shapes) words s.events

-- ---- whole reports

pub last_some : (script : ScriptOf) (words : List ℕ) → 1 ≤ length (last_lines script words)
last_some script words =
    let errors = error_lines 0 (units_after script.shapes words) in
    omega (arith, length-append (end_lines (logged_in script.shapes words) 0 (script.boot ∷ script.lanes)) (errors ++ codes "end\n" ∷ []), length-append errors (codes "end\n" ∷ []))

pub whole_count : (script : ScriptOf) (bytes words : List ℕ) → AllByRecursion IsEventWord words → fed_lines bytes ≡ report_lines script (length words) words
    → length (fed_lines bytes) ≡ suc (length words + length (last_lines script words))
whole_count script bytes words h e =
    ap length e ∙ ap suc (length-append (map event_line (logged_in script.shapes words)) (last_lines script words)
    ∙ ap (λ n. n + length (last_lines script words)) (as_many_lines state_after_word reply_to_word 0 (fabric_at_reset script.shapes) words h))

-- ---- what is read

lines_there : (script : ScriptOf) (bytes : List ℕ) (count : ℕ) (words : List ℕ) (state : FabricState) (cs : List CursorOf) (left : List ℕ) → AreRead script bytes count words state cs left
    → length (fed_lines bytes) ≡ suc (length words + length (fed_lines left))
lines_there script bytes count words state cs left r =
    ap length r.lines ∙ ap suc (length-append (map event_line (logged_in script.shapes words)) (fed_lines left) ∙ ap (λ n. n + length (fed_lines left)) (event_lines_count script words state cs r.seen))

-- what is read is good
pub good_so_far : (script : ScriptOf) (bytes : List ℕ) (count : ℕ) (words : List ℕ) (state : FabricState) (cs : List CursorOf) (left : List ℕ) → AreRead script bytes count words state cs left
    → HasGoodLines script bytes (length words + 1)
good_so_far script bytes count words state cs left r =
    let n : suc (length words) ≡ length words + 1 = omega arith in
    let few = r.listed in
    record {
      count = count;
      words = words;
      few = r.few;
      legal = seen_begins script words state cs r.seen;
      listed = inr (few, refl);
      there = omega (arith, lines_there script bytes count words state cs left r);
      same = ap (take (length words + 1)) r.lines
          ∙ subst (λ m. take m (count_line count ∷ (map event_line (logged_in script.shapes words) ++ fed_lines left)) ≡ take m (report_lines script count words)) n
          (ap (λ l. count_line count ∷ l) (take_front (map event_line (logged_in script.shapes words)) (fed_lines left) (last_lines script words) (length words) (event_lines_count script words state cs r.seen)));
    }

-- ---- the next line

long : (n count : ℕ) (script : ScriptOf) (bytes : List ℕ) (g : HasGoodLines script bytes (n + 1 + 1)) → (length g.words ≡ g.count) ⊎ ((length g.words ≤ g.count) × (n + 1 + 1 ≡ length g.words + 1)) → g.count ≡ count → n < count → suc n ≤ length g.words
long n count script bytes g (inl e) c h = omega (arith, e, c, h)
long n count script bytes g (inr p) c h = omega (arith, p.1)

module _ (script : ScriptOf) (bytes : List ℕ) (count : ℕ) (words : List ℕ) (state : FabricState) (cs : List CursorOf) (left : List ℕ) (r : AreRead script bytes count words state cs left) (most : need_of script ≤ 1048576) where
  abbrev listed : List (List ℕ)
  listed = map event_line (logged_in script.shapes words)

  -- lines that are left list an event that may come, where they are good
  not_good : (line : List ℕ) (rest : List (List ℕ)) → length words < count → fed_lines left ≡ line ∷ rest → ListsNone script words left → HasGoodLines script bytes (length words + 1 + 1) → ⊥
  not_good line rest h e none g =
      let n : length words + 1 + 1 ≡ suc (suc (length words)) = omega arith in
      let start = fabric_at_reset script.shapes in
      let tail = last_lines script g.words in
      let whole = subst (λ m. take m (count_line count ∷ (listed ++ (line ∷ rest))) ≡ take m (report_lines script g.count g.words)) n
      (sym (ap (take (length words + 1 + 1)) (r.lines ∙ ap (λ ls. count_line count ∷ (listed ++ ls)) e)) ∙ g.same) in
      let counts : count ≡ g.count = counts_same count g.count (let f = r.few in omega (arith, f, most)) (let f = g.few in omega (arith, f, most)) (first_same _ _ _ _ whole) in
      let enough = long (length words) count script bytes g g.listed (sym counts) h in
      let next = line_after state_after_word reply_to_word 0 start words g.words line rest tail r.seen.events g.legal.events enough (rest_same _ _ _ _ whole) in
      let there = next.listed ∙ ap (λ m. event_line (record { place = m; event = next.event; reply = reply_to_word (state_after script.shapes words) m (word_of next.event) })) (zero-add (length words)) in
      none next.event next.more rest next.valid (e ∙ ap (λ l. l ∷ rest) there) (subst (IsLegalSoFar script) next.is g.legal)

  -- the next line lists no event that may come, or there is none
  pub lists_none : (place : ℕ) → length words ≡ place → place < count → ListsNone script words left → IsFound script bytes (place + 2)
  lists_none place k h none = record {
    first = record {
      good = length words + 1;
      before = good_so_far script bytes count words state cs left r;
      is = omega (arith, k);
      bad = λ g. by (fed_lines left) refl g;
    };
    there = λ w legal few e. enough w legal few e;
  }
    where
      by : (ls : List (List ℕ)) → fed_lines left ≡ ls → HasGoodLines script bytes (length words + 1 + 1) → ⊥
      by [] e g = let t = g.there in omega (arith, t, lines_there script bytes count words state cs left r, ap length e)
      by (line ∷ rest) e g = not_good line rest (omega (arith, k, h)) e none g

      enough : (w : List ℕ) → IsLegalSoFar script w → length w ≤ need_of script → fed_lines bytes ≡ report_lines script (length w) w → place + 2 ≤ length (fed_lines bytes)
      enough w legal few e =
          let f = r.few in
          let counts : count ≡ length w = counts_same count (length w) (omega (arith, f, most)) (omega (arith, few, most)) (first_same _ _ _ _ (sym r.lines ∙ e)) in
          omega (arith, k, h, counts, whole_count script bytes w legal.events e, last_some script w)

map_more : (xs : List LoggedEvent) (x : LoggedEvent) (rest : List (List ℕ)) → map event_line (xs ++ x ∷ []) ++ rest ≡ map event_line xs ++ (event_line x ∷ rest)
map_more [] x rest = refl
map_more (y ∷ xs) x rest = ap (λ l. event_line y ∷ l) (map_more xs x rest)

-- one line more
pub read_more : (script : ScriptOf) (bytes : List ℕ) (count : ℕ) (words : List ℕ) (state after : FabricState) (cs new : List CursorOf) (left rest : List ℕ) (place : ℕ)
    → AreRead script bytes count words state cs left → length words ≡ place → place < count → (n : IsNext script words left rest after new)
    → (more : List ℕ) × (length more ≡ place + 1) × AreRead script bytes count more after new rest
read_more script bytes count words state after cs new left rest place r k h n =
    let w = word_of n.event in
    let longer : length (words ++ w ∷ []) ≡ place + 1 = omega (arith, length-append words (w ∷ []), k) in (
      words ++ w ∷ [],
      longer,
      record {
        seen = n.seen;
        few = r.few;
        listed = omega (arith, longer, h);
        lines = r.lines ∙ ap (λ ls. count_line count ∷ (map event_line (logged_in script.shapes words) ++ ls)) n.listed
            ∙ ap (λ ls. count_line count ∷ ls) (sym (map_more (logged_in script.shapes words) (entry_after script.shapes words n.event) (fed_lines rest)))
            ∙ ap (λ xs. count_line count ∷ (map event_line xs ++ fed_lines rest)) (sym (logged_more script.shapes words n.event n.valid));
      },
    )
