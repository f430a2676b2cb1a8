-- Cursors before the first event.
use Rattle.std.proofs.Common.{◌≡◌, ℕ, ◌+◌, ◌<◌, ◌≤◌, List, [], ◌∷◌, length, sym, subst, arith, inl, refl, drop, take, ◌∙◌, ap}
use Rattle.std.specs.Prelude.{IsSome, Any}
use Rattle.std.specs.List.{AllByRecursion}
use Rattle.event_words.specs.Sections.{SectionOf, IsValidSection}
use Rattle.section_cursor.specs.Cursors.{CursorOf}
use Rattle.section_cursor.specs.Fresh.{IsFresh, AreFresh}
use Rattle.section_cursor.proofs.Following.{section_completes}
use Rattle.unit_core.specs.Units.{FabricState}
use Rattle.script_reader.specs.Scripts.{ScriptOf, need_of, IsWellFormedScript}
use Rattle.script_reader.specs.ReportTexts.{fed_lines}
use Rattle.event_words.specs.ReportLines.{count_line}
use Rattle.audit_reader.specs.ReportLines.{report_lines}
use Rattle.audit_reader.specs.Beginnings.{IsLegalSoFar, BeginRecords, IsOfSomeLane}
use Rattle.audit_reader.proofs.EqualLines.{first_same}
use Rattle.audit_reader.specs.Following.{Follows, Follow, AreRead, IsFound, state_after}

follows_new : (i : ℕ) (s : SectionOf) (c : CursorOf) → IsValidSection s → i < 32 → IsFresh i s c → Follows i s [] c
follows_new i s c v l f =
    let some = section_completes i s v in
    record { number = f.number; rest = f.whole; may_end = (some.0, subst IsSome (sym (f.whole some.0)) some.1); tries = f.tries v; valid = f.valid l v }

pub follow_fresh : (cs : List CursorOf) (ss : List SectionOf) (i : ℕ) → i + length ss ≤ 32 → AllByRecursion IsValidSection ss → AreFresh i cs ss → Follow [] i cs ss
follow_fresh [] [] i l v f = tt
follow_fresh (c ∷ cs) (s ∷ ss) i l v f = (follows_new i s c v.0 (omega (arith, l)) f.0, follow_fresh cs ss (i + 1) (omega (arith, l)) v.1 f.1)
follow_fresh [] (s ∷ ss) i l v f = absurd f
follow_fresh (c ∷ cs) [] i l v f = absurd f

pub script_follows : (script : ScriptOf) (boot : SectionOf) (lanes : List SectionOf) (cs ds : List CursorOf) → IsWellFormedScript script → boot ≡ script.boot → lanes ≡ script.lanes → ds ≡ cs
    → AreFresh 0 cs (boot ∷ lanes) → Follow [] 0 ds (script.boot ∷ script.lanes)
script_follows script boot lanes cs ds w b l d f =
    let few = w.few_lanes in
    follow_fresh ds (script.boot ∷ script.lanes) 0 (omega (arith, few)) (w.boot, w.lanes)
    (subst (λ (xs : List CursorOf). AreFresh 0 xs (script.boot ∷ script.lanes)) (sym d) (subst (λ (x : SectionOf). AreFresh 0 cs (x ∷ script.lanes)) b (subst (λ (xs : List SectionOf). AreFresh 0 cs (boot ∷ xs)) l f)))

-- after the first line no event is read
pub none_read : (script : ScriptOf) (bytes : List ℕ) (count : ℕ) (state : FabricState) (cs : List CursorOf) (left : List ℕ) → count ≤ need_of script → state ≡ state_after script.shapes []
    → Follow [] 0 cs (script.boot ∷ script.lanes) → fed_lines bytes ≡ count_line count ∷ fed_lines left → AreRead script bytes count [] state cs left
none_read script bytes count state cs left few u f e =
    record { seen = record { events = tt; reached = u; order = inl tt; follow = f }; few = few; listed = omega arith; lines = e }

-- ---- no line is good yet

all_complete : (ss : List SectionOf) (i : ℕ) → AllByRecursion IsValidSection ss → BeginRecords [] i ss
all_complete [] i v = tt
all_complete (s ∷ ss) i v = (section_completes i s v.0, all_complete ss (i + 1) v.1)

no_word : Any IsOfSomeLane [] → ⊥
no_word (k, x, l, e, p) = omega (arith, l)

none_begins : (script : ScriptOf) → IsWellFormedScript script → IsLegalSoFar script []
none_begins script f = record {
  events = tt;
  order = record { boot = []; others = []; is = refl; of_boot = tt; of_lanes = tt };
  boot_record = section_completes 0 script.boot f.boot;
  boot_whole = λ any. absurd (no_word any);
  lane_records = all_complete script.lanes 1 f.lanes;
}

-- The first line is bad: it says no count that the script may need, or is missing.
pub first_bad : (script : ScriptOf) (bytes : List ℕ) → IsWellFormedScript script → ((n : ℕ) (rest : List (List ℕ)) → n ≤ need_of script → fed_lines bytes ≡ count_line n ∷ rest → ⊥) → IsFound script bytes 1
first_bad script bytes f other = record {
  first = record {
    good = 0;
    before = record { count = 0; words = []; few = omega arith; legal = none_begins script f; listed = inl refl; there = omega arith; same = refl };
    is = refl;
    bad = λ g. by (fed_lines bytes) refl g.there g.count g.few (report_lines script g.count g.words) g.same;
  };
  there = λ words legal few e. absurd (other (length words) _ few e);
}
  where
    by : (lines : List (List ℕ)) → fed_lines bytes ≡ lines → 1 ≤ length lines → (n : ℕ) → n ≤ need_of script → (report : List (List ℕ)) → take 1 lines ≡ take 1 (count_line n ∷ drop 1 report) → ⊥
    by [] e l n few report same = omega (arith, l)
    by (x ∷ lines) e l n few report same = other n lines few (e ∙ ap (λ y. y ∷ lines) (first_same _ _ _ _ same))
