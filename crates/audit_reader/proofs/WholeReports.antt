-- The lines after those of the events: the first that is bad, and reports all of whose lines are good.
use Rattle.std.proofs.Common.{◌≡◌, ◌⊎◌, ℕ, zero, suc, ◌+◌, ◌<◌, ◌≤◌, ◌++◌, Bool, true, false, cond, List, [], ◌∷◌, length, map, take, codes, refl, sym, ap, subst, ◌∙◌, arith, inl, inr, append_assoc, append-nil, length-append}
use Rattle.std.specs.Prelude.{◌==◌}
use Rattle.std.proofs.lemmas.List.{append_cancel_left}
use Rattle.event_words.specs.declared.record.LoggedEvent.{LoggedEvent}
use Rattle.event_words.specs.Sections.{SectionOf}
use Rattle.event_words.specs.Records.{section_end, events_by}
use Rattle.section_cursor.specs.Cursors.{CursorOf}
use Rattle.unit_core.specs.Units.{UnitState, FabricState, fabric_at_reset}
use Rattle.unit_core.specs.Fabrics.{state_after_word, reply_to_word}
use Rattle.unit_core.specs.Histories.{logged_in, units_after}
use Rattle.event_words.specs.ReportLines.{count_line, event_line, section_line}
use Rattle.script_reader.specs.Scripts.{ScriptOf, need_of}
use Rattle.script_reader.specs.ReportTexts.{fed_lines, with_byte}
use Rattle.audit_reader.specs.ReportLines.{report_lines, end_lines, error_lines}
use Rattle.audit_reader.specs.Audits.{HasGoodLines, IsLegalReport}
use Rattle.audit_reader.specs.Following.{AreRead, Follow, IsFound}
use Rattle.audit_reader.specs.LastLines.{HaveCome, IsOther, cursor_lines}
use Rattle.audit_reader.proofs.OneMore.{seen_begins}
use Rattle.audit_reader.proofs.EqualLines.{first_same, rest_same, words_same}
use Rattle.audit_reader.proofs.GoodLines.{take_front, counts_same, last_lines, event_lines_count}
use Rattle.audit_reader.proofs.LegalReports.{legal_report}

-- ---- lists

take_less : {A : Type 0} (xs ys : List A) (k n : ℕ) → k ≤ n → take n xs ≡ take n ys → take k xs ≡ take k ys
take_less xs ys zero n h e = refl
take_less xs ys (suc k) zero h e = absurd (omega (arith, h))
take_less [] [] (suc k) (suc n) h e = refl
take_less [] (y ∷ ys) (suc k) (suc n) h e = absurd (nothing y _ e)
  where
    nothing : {A : Type 0} (z : A) (zs : List A) → [] ≡ z ∷ zs → ⊥
    nothing z zs e = cc
take_less (x ∷ xs) [] (suc k) (suc n) h e = absurd (nothing x _ e)
  where
    nothing : {A : Type 0} (z : A) (zs : List A) → z ∷ zs ≡ [] → ⊥
    nothing z zs e = cc
take_less (x ∷ xs) (y ∷ ys) (suc k) (suc n) h e = ap (λ z. z ∷ take k xs) (first_same _ _ _ _ e) ∙ ap (λ zs. y ∷ zs) (take_less xs ys k n (omega (arith, h)) (rest_same _ _ _ _ e))

-- what follows equal beginnings is equal
next_same : {A : Type 0} (xs : List A) (x y : A) (ys zs : List A) (n : ℕ) → n ≡ suc (length xs) → take n (xs ++ (x ∷ ys)) ≡ take n (xs ++ (y ∷ zs)) → x ≡ y
next_same [] x y ys zs zero h e = absurd (omega (arith, h))
next_same [] x y ys zs (suc n) h e = first_same _ _ _ _ e
next_same (w ∷ xs) x y ys zs zero h e = absurd (omega (arith, h))
next_same (w ∷ xs) x y ys zs (suc n) h e = next_same xs x y ys zs n (omega (arith, h)) (rest_same _ _ _ _ e)

no_next : {A : Type 0} (xs : List A) (x : A) (ys : List A) (n : ℕ) → n ≡ suc (length xs) → take n (xs ++ (x ∷ ys)) ≡ take n (xs ++ []) → ⊥
no_next [] x ys zero h e = absurd (omega (arith, h))
no_next [] x ys (suc n) h e = nothing x _ e
  where
    nothing : {A : Type 0} (z : A) (zs : List A) → z ∷ zs ≡ [] → ⊥
    nothing z zs e = cc
no_next (w ∷ xs) x ys zero h e = absurd (omega (arith, h))
no_next (w ∷ xs) x ys (suc n) h e = no_next xs x ys n (omega (arith, h)) (rest_same _ _ _ _ e)

-- the lines that are to come and those that are left don't begin with one line
abbrev pub Differ : List (List ℕ) → List (List ℕ) → Type 0
Differ next ls = (x : List ℕ) (rest todo : List (List ℕ)) → ls ≡ x ∷ rest → next ≡ x ∷ todo → ⊥

-- ---- lines that come, in parts

pub other_within : (n : ℕ) (v w lines : List (List ℕ)) → IsOther n v lines → IsOther n (v ++ w) lines
other_within n v w lines o =
    let h = o.come in
    record {
      line = o.line;
      todo = o.todo ++ w;
      left = o.left;
      come = record { before = h.before; as_many = h.as_many; wanted_is = ap (λ ls. ls ++ w) h.wanted_is ∙ append_assoc h.before (o.line ∷ o.todo) w; lines_are = h.lines_are };
      other = o.other;
    }

pub other_after : (m n : ℕ) (v w lines left : List (List ℕ)) → length v ≡ m → lines ≡ v ++ left → IsOther n w left → IsOther (m + n) (v ++ w) lines
other_after m n v w lines left k e o =
    let h = o.come in
    record {
      line = o.line;
      todo = o.todo;
      left = o.left;
      come = record {
        before = v ++ h.before;
        as_many = let a = h.as_many in omega (arith, length-append v h.before, k, a);
        wanted_is = ap (λ ls. v ++ ls) h.wanted_is ∙ sym (append_assoc v h.before (o.line ∷ o.todo));
        lines_are = e ∙ ap (λ ls. v ++ ls) h.lines_are ∙ sym (append_assoc v h.before o.left);
      };
      other = o.other;
    }

-- ---- the first bad line after those of the events

all_listed : (count n m : ℕ) (script : ScriptOf) (bytes : List ℕ) (g : HasGoodLines script bytes m) → m ≡ count + 2 + n → g.count ≡ count → (length g.words ≡ g.count) ⊎ ((length g.words ≤ g.count) × (m ≡ length g.words + 1)) → length g.words ≡ count
all_listed count n m script bytes g h c (inl e) = e ∙ c
all_listed count n m script bytes g h c (inr p) = absurd (omega (arith, h, c, p.0, p.1))

pub bad_after : (script : ScriptOf) (bytes : List ℕ) (count : ℕ) (words : List ℕ) (state : FabricState) (cs : List CursorOf) (left : List ℕ) (n : ℕ) → AreRead script bytes count words state cs left
    → length words ≡ count → need_of script ≤ 1048576 → (next ls : List (List ℕ)) → 1 ≤ length next + length ls → HaveCome n (last_lines script words) next (fed_lines left) ls → Differ next ls → IsFound script bytes (count + 2 + n)
bad_after script bytes count words state cs left n r k most next ls some h other =
    let events : List (List ℕ) = map event_line (logged_in script.shapes words) in
    let front : List (List ℕ) = count_line count ∷ (events ++ h.before) in
    let many = event_lines_count script words state cs r.seen in
    let a = h.as_many in
    let long : length front ≡ count + 1 + n = omega (arith, length-append events h.before, many, k, a) in
    let fed : fed_lines bytes ≡ front ++ ls =
    r.lines ∙ ap (λ ls. count_line count ∷ (events ++ ls)) h.lines_are ∙ ap (λ ls. count_line count ∷ ls) (sym (append_assoc events h.before ls)) in
    let wanted : report_lines script count words ≡ front ++ next =
    ap (λ ls. count_line count ∷ (events ++ ls)) h.wanted_is ∙ ap (λ ls. count_line count ∷ ls) (sym (append_assoc events h.before next)) in
    record {
      first = record {
        good = count + 1 + n;
        before = record {
          count = count;
          words = words;
          few = r.few;
          legal = seen_begins script words state cs r.seen;
          listed = inl k;
          there = omega (arith, ap length fed, length-append front ls, long);
          same = ap (take (count + 1 + n)) fed ∙ take_front front ls next (count + 1 + n) long ∙ sym (ap (take (count + 1 + n)) wanted);
        };
        is = omega arith;
        bad = λ g.
            let m : ℕ = count + 1 + n + 1 in
            let heads = take_less (fed_lines bytes) (report_lines script g.count g.words) (suc count) m (omega arith) g.same in
            let whole = sym (ap (take (suc count)) r.lines) ∙ heads in
            let f = r.few in
            let gf = g.few in
            let counts : count ≡ g.count = counts_same count g.count (omega (arith, f, most)) (omega (arith, gf, most)) (first_same _ _ _ _ whole) in
            let lengths = all_listed count n m script bytes g (omega arith) (sym counts) g.listed in
            let start = fabric_at_reset script.shapes in
            let same : words ≡ g.words =
            words_same state_after_word reply_to_word 0 start words g.words (fed_lines left) (last_lines script g.words) r.seen.events g.legal.events (k ∙ sym lengths)
            (subst (λ j. take j (events ++ fed_lines left) ≡ take j (map event_line (logged_in script.shapes g.words) ++ last_lines script g.words)) (sym k) (rest_same _ _ _ _ whole)) in
            let lines = g.same ∙ ap (λ c. take m (report_lines script c g.words)) (sym counts) ∙ ap (λ ws. take m (report_lines script count ws)) (sym same) in
            let t = g.there in
            differ ls next front m (omega (arith, long)) (omega (arith, t, ap length fed, length-append front ls, long)) other
            (sym (ap (take m) fed) ∙ lines ∙ ap (take m) wanted);
      };
      there = λ w legal enough e.
          let f = r.few in
          let whole = sym r.lines ∙ e in
          let counts : count ≡ length w = counts_same count (length w) (omega (arith, f, most)) (omega (arith, enough, most)) (first_same _ _ _ _ whole) in
          let start = fabric_at_reset script.shapes in
          let same : words ≡ w =
          words_same state_after_word reply_to_word 0 start words w (fed_lines left) (last_lines script w) r.seen.events legal.events (k ∙ counts)
          (ap (take (length words)) (rest_same _ _ _ _ whole)) in
          let lines = e ∙ ap (λ c. report_lines script c w) (sym counts) ∙ ap (λ ws. report_lines script count ws) (sym same) ∙ wanted in
          let left_same : ls ≡ next = append_cancel_left front ls next (sym fed ∙ lines) in
          omega (arith, some, ap length left_same, ap length fed, length-append front ls, long);
    }
  where
    differ : (ls next front : List (List ℕ)) (m : ℕ) → m ≡ suc (length front) → 1 ≤ length ls → Differ next ls → take m (front ++ ls) ≡ take m (front ++ next) → ⊥
    differ [] next front m h l other e = omega (arith, l)
    differ (x ∷ ls) [] front m h l other e = no_next front x ls m h e
    differ (x ∷ ls) (y ∷ todo) front m h l other e = other x ls todo refl (ap (λ z. z ∷ todo) (sym (next_same front x y ls todo m h e)))

-- ---- lines that are left

some_line : (bytes : List ℕ) → 0 < length bytes → 1 ≤ length (fed_lines bytes)
some_line [] h = absurd (omega (arith, h))
some_line (b ∷ bs) h = by (b == 10) (fed_lines bs)
  where
    by : (t : Bool) (ls : List (List ℕ)) → 1 ≤ length (cond t ((b ∷ []) ∷ ls) (with_byte b ls))
    by true ls = omega arith
    by false [] = omega arith
    by false (l ∷ ls) = omega arith

no_line : (bytes : List ℕ) → length bytes ≡ 0 → fed_lines bytes ≡ []
no_line [] h = refl
no_line (b ∷ bs) h = absurd (omega (arith, h))

-- the lines of the cursors are those of the sections
pub cursor_lines_are : (cs : List CursorOf) (ss : List SectionOf) (i : ℕ) (xs : List LoggedEvent) → Follow xs i cs ss → cursor_lines i cs ≡ end_lines xs i ss
cursor_lines_are [] [] i xs f = refl
cursor_lines_are (c ∷ cs) (s ∷ ss) i xs f =
    ap (λ o. section_line i o ∷ cursor_lines (i + 1) cs) (f.0.rest [] ∙ ap (section_end i s) (append-nil (events_by i xs)))
    ∙ ap (λ ls. section_line i (section_end i s (events_by i xs)) ∷ ls) (cursor_lines_are cs ss (i + 1) xs f.1)
cursor_lines_are [] (s ∷ ss) i xs f = absurd f
cursor_lines_are (c ∷ cs) [] i xs f = absurd f

-- ---- the first bad one of the last lines

other_differs : (n : ℕ) (w lines : List (List ℕ)) (o : IsOther n w lines) → Differ (o.line ∷ o.todo) o.left
other_differs n w lines o x rest todo p q = o.other rest (p ∙ ap (λ l. l ∷ rest) (sym (first_same _ _ _ _ q)))

other_bad : (script : ScriptOf) (bytes : List ℕ) (count : ℕ) (words : List ℕ) (state : FabricState) (cs : List CursorOf) (left : List ℕ) (n : ℕ) → AreRead script bytes count words state cs left
    → length words ≡ count → need_of script ≤ 1048576 → IsOther n (last_lines script words) (fed_lines left) → IsFound script bytes (count + 2 + n)
other_bad script bytes count words state cs left n r k most o = bad_after script bytes count words state cs left n r k most (o.line ∷ o.todo) o.left (omega arith) o.come (other_differs n _ _ o)

module _ (script : ScriptOf) (bytes : List ℕ) (count : ℕ) (words : List ℕ) (state : FabricState) (cs : List CursorOf) (left : List ℕ) (r : AreRead script bytes count words state cs left) (k : length words ≡ count) where
  abbrev ends : List (List ℕ)
  ends = end_lines (logged_in script.shapes words) 0 (script.boot ∷ script.lanes)

  abbrev errors : List (List ℕ)
  errors = error_lines 0 (units_after script.shapes words)

  ends_are : cursor_lines 0 cs ≡ ends
  ends_are = cursor_lines_are cs (script.boot ∷ script.lanes) 0 (logged_in script.shapes words) r.seen.follow

  errors_are : error_lines 0 state.units ≡ errors
  errors_are = ap (λ (s : FabricState). error_lines 0 s.units) r.seen.reached

  count_ends : (cs : List CursorOf) (i : ℕ) → length (cursor_lines i cs) ≡ length cs
  count_ends [] i = refl
  count_ends (c ∷ cs) i = ap suc (count_ends cs (i + 1))

  count_errors : (us : List UnitState) (i : ℕ) → length (error_lines i us) ≡ length us
  count_errors [] i = refl
  count_errors (u ∷ us) i = ap suc (count_errors us (i + 1))

  many_ends : length ends ≡ length cs
  many_ends = ap length (sym ends_are) ∙ count_ends cs 0

  many_errors : length errors ≡ length state.units
  many_errors = ap length (sym errors_are) ∙ count_errors state.units 0

  pub bad_end : need_of script ≤ 1048576 → (n : ℕ) → IsOther n (cursor_lines 0 cs) (fed_lines left) → IsFound script bytes (count + 2 + n)
  bad_end most n o = other_bad script bytes count words state cs left n r k most (other_within n ends _ (fed_lines left) (subst (λ w. IsOther n w (fed_lines left)) ends_are o))

  pub bad_unit : need_of script ≤ 1048576 → (n : ℕ) (second : List ℕ) → fed_lines left ≡ cursor_lines 0 cs ++ fed_lines second → IsOther n (error_lines 0 state.units) (fed_lines second) → IsFound script bytes (count + 2 + (length cs + n))
  bad_unit most n second e o =
      other_bad script bytes count words state cs left (length cs + n) r k most
      (other_after (length cs) n ends _ (fed_lines left) (fed_lines second) many_ends (e ∙ ap (λ w. w ++ fed_lines second) ends_are)
      (other_within n errors _ (fed_lines second) (subst (λ w. IsOther n w (fed_lines second)) errors_are o)))

  come_ends : (second third : List ℕ) → fed_lines left ≡ cursor_lines 0 cs ++ fed_lines second → fed_lines second ≡ error_lines 0 state.units ++ fed_lines third → fed_lines left ≡ ends ++ (errors ++ fed_lines third)
  come_ends second third e f = e ∙ ap (λ w. w ++ fed_lines second) ends_are ∙ ap (λ w. ends ++ w) (f ∙ ap (λ w. w ++ fed_lines third) errors_are)

  pub bad_last : need_of script ≤ 1048576 → (second third : List ℕ) → fed_lines left ≡ cursor_lines 0 cs ++ fed_lines second → fed_lines second ≡ error_lines 0 state.units ++ fed_lines third
      → ((rest : List (List ℕ)) → fed_lines third ≡ codes "end\n" ∷ rest → ⊥) → IsFound script bytes (count + 2 + (length cs + length state.units))
  bad_last most second third e f other =
      bad_after script bytes count words state cs left (length cs + length state.units) r k most (codes "end\n" ∷ []) (fed_lines third) (omega arith)
      (record {
        before = ends ++ errors;
        as_many = omega (arith, length-append ends errors, many_ends, many_errors);
        wanted_is = sym (append_assoc ends errors (codes "end\n" ∷ []));
        lines_are = come_ends second third e f ∙ sym (append_assoc ends errors (fed_lines third));
      })
      (λ x rest todo p q. other rest (p ∙ ap (λ l. l ∷ rest) (sym (first_same _ _ _ _ q))))

  pub too_long : need_of script ≤ 1048576 → (second third fourth : List ℕ) → fed_lines left ≡ cursor_lines 0 cs ++ fed_lines second → fed_lines second ≡ error_lines 0 state.units ++ fed_lines third
      → fed_lines third ≡ codes "end\n" ∷ fed_lines fourth → 0 < length fourth → IsFound script bytes (count + 2 + (length cs + length state.units + 1))
  too_long most second third fourth e f g more =
      bad_after script bytes count words state cs left (length cs + length state.units + 1) r k most [] (fed_lines fourth) (omega (arith, some_line fourth more))
      (record {
        before = last_lines script words;
        as_many = omega (arith, length-append ends (errors ++ codes "end\n" ∷ []), length-append errors (codes "end\n" ∷ []), many_ends, many_errors);
        wanted_is = sym (append-nil (last_lines script words));
        lines_are = come_ends second third e f ∙ ap (λ w. ends ++ (errors ++ w)) g
            ∙ sym (append_assoc ends (errors ++ codes "end\n" ∷ []) (fed_lines fourth) ∙ ap (λ w. ends ++ w) (append_assoc errors (codes "end\n" ∷ []) (fed_lines fourth)));
      })
      (λ x rest todo p q. nothing x todo q)
    where
      nothing : (x : List ℕ) (todo : List (List ℕ)) → [] ≡ x ∷ todo → ⊥
      nothing x todo e = cc

  pub all_good : (second third fourth : List ℕ) → fed_lines left ≡ cursor_lines 0 cs ++ fed_lines second → fed_lines second ≡ error_lines 0 state.units ++ fed_lines third
      → fed_lines third ≡ codes "end\n" ∷ fed_lines fourth → length fourth ≡ 0 → IsLegalReport script bytes
  all_good second third fourth e f g none =
      legal_report script bytes count words state cs left r k (come_ends second third e f ∙ ap (λ w. ends ++ (errors ++ w)) (g ∙ ap (λ w. codes "end\n" ∷ w) (no_line fourth none)))
