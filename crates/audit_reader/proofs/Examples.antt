-- Reports in numbers: which of their first lines are good.
use Rattle.std.proofs.Common.{◌≡◌, ◌⊎◌, ℕ, zero, suc, ◌+◌, ◌^◌, ◌<◌, ◌≤◌, List, [], ◌∷◌, None, length, take, map, codes, refl, arith, inl, inr, false, ap}
use Rattle.std.specs.Prelude.{IsTrue, slice_index, slice_index_or}
use Rattle.std.specs.Fmt.{digits}
use lib.Count
use Rattle.std.specs.List.{AllByRecursion}
use Rattle.event_words.specs.declared.shape.Shape.{Shape}
use Rattle.event_words.specs.declared.access.Access.{Access}
use Rattle.event_words.specs.declared.access.Kind.TheVariants as kinds
use Rattle.event_words.specs.declared.event.Event.TheVariants as events
use Rattle.event_words.specs.declared.reply.Reply.TheVariants as replies
use Rattle.event_words.specs.declared.reply.Verdict.TheVariants as verdicts
use Rattle.event_words.specs.declared.record.LoggedEvent.{LoggedEvent}
use Rattle.event_words.specs.declared.section.Command.TheVariants as commands
use Rattle.event_words.specs.Word.{word_of}
use Rattle.event_words.specs.Valid.{IsValidHead, IsValidAccess, is_narrow}
use Rattle.event_words.specs.Runs.{caller_of_word, IsEventWord}
use Rattle.unit_core.specs.Histories.{IsBoot}
use Rattle.unit_core.specs.Reports.{report_text}
use Rattle.script_reader.specs.Scripts.{ScriptOf, need_of}
use Rattle.script_reader.specs.ReportTexts.{fed_lines}
use Rattle.audit_reader.specs.Beginnings.{IsLegalSoFar}
use Rattle.audit_reader.specs.ReportLines.{report_lines}
use Rattle.audit_reader.specs.Audits.{HasGoodLines, IsFirstBadLine}
use Rattle.audit_reader.proofs.OneMore.{no_lane}

abbrev small : Shape
small = record { rrids = 4; domains = 3; entries = 8; mdcfg = 0; k = 0; srcmd = 0; sps = false; queue = 1; transl = None }

-- ---- a script without commands

abbrev empty : ScriptOf
empty = record { shapes = small ∷ []; boot = record { commands = []; slots = 0 }; lanes = [] }

abbrev whole : List ℕ
whole = codes "events 0\nsection 0 done\nunit 0 0x0 0x0 0x0 0x0\nend\n"

its_report : report_text empty.shapes empty.boot empty.lanes [] ≡ whole
unfolding digits
its_report = refl

its_lines : fed_lines whole ≡ report_lines empty 0 []
unfolding digits
its_lines = refl

its_need : need_of empty ≡ 1
its_need = refl

nothing_yet : IsLegalSoFar empty []
nothing_yet = record {
  events = tt;
  order = record { boot = []; others = []; is = refl; of_boot = tt; of_lanes = tt };
  boot_record = ([], refl);
  boot_whole = λ any. refl;
  lane_records = tt;
}

all_good : HasGoodLines empty whole 4
unfolding digits
all_good = record { count = 0; words = []; few = omega arith; legal = nothing_yet; listed = inl refl; there = omega arith; same = refl }

-- ---- another end of the section: its line is the first bad one

abbrev stopped : List ℕ
stopped = codes "events 0\nsection 0 stopped\nunit 0 0x0 0x0 0x0 0x0\nend\n"

first_good : HasGoodLines empty stopped 1
unfolding digits
first_good = record { count = 0; words = []; few = omega arith; legal = nothing_yet; listed = inl refl; there = omega arith; same = refl }

other_end : (count : ℕ) (words : List ℕ) → count ≤ 1 → length words ≤ count → take 2 (fed_lines stopped) ≡ take 2 (report_lines empty count words) → ⊥
unfolding digits
other_end zero [] few some same = let n : 115 ≡ 100 = ap (λ lines. slice_index (slice_index_or lines 1 []) 10) same in absurd (omega (arith, n))
other_end zero (w ∷ ws) few some same = absurd (omega (arith, some))
other_end (suc zero) words few some same = let n : 48 ≡ 49 = ap (λ lines. slice_index (slice_index_or lines 0 []) 7) same in absurd (omega (arith, n))
other_end (suc (suc n)) words few some same = absurd (omega (arith, few))

few_words : (g : HasGoodLines empty stopped 2) → (length g.words ≡ g.count) ⊎ ((length g.words ≤ g.count) × (2 ≡ length g.words + 1)) → length g.words ≤ g.count
few_words g (inl e) = omega (arith, e)
few_words g (inr p) = p.0

second_bad : IsFirstBadLine empty stopped 2
second_bad = record { good = 1; before = first_good; is = refl; bad = λ g. other_end g.count g.words g.few (few_words g g.listed) g.same }

-- ---- a report without its last line

abbrev unended : List ℕ
unended = codes "events 0\nsection 0 done\nunit 0 0x0 0x0 0x0 0x0\n"

three_good : HasGoodLines empty unended 3
unfolding digits
three_good = record { count = 0; words = []; few = omega arith; legal = nothing_yet; listed = inl refl; there = omega arith; same = refl }

fourth_missing : IsFirstBadLine empty unended 4
fourth_missing = record { good = 3; before = three_good; is = refl; bad = λ g. absurd (omega (arith, g.there)) }

-- ---- a verdict that isn't the units'

abbrev read_at : ℕ → Access
read_at addr = record { rrid = 3; kind = kinds.Read; addr = addr; len = 1 }

-- Entry 0 lets requester 3 read 4096 bytes from 0x80000000. The second read is past them.
abbrev two_reads : ScriptOf
two_reads = record {
  shapes = small ∷ [];
  boot = record {
    commands =
        commands.Write 0 512 8 ∷ commands.Write 0 1048 2 ∷ commands.Write 0 2 1 ∷ commands.Write 0 2048 0x200001ff ∷ commands.Write 0 2050 0x19
        ∷ commands.Submit 0 (read_at 0x80000fff) 0 ∷ commands.Judge 0 ∷ commands.Submit 0 (read_at 0x80001000) 1 ∷ commands.Judge 1 ∷ [];
    slots = 2;
  };
  lanes = [];
}

abbrev before_last : List ℕ
before_last = map word_of
    (events.RegWrite 0 0 512 8 ∷ events.RegWrite 0 0 1048 2 ∷ events.RegWrite 0 0 2 1 ∷ events.RegWrite 0 0 2048 0x200001ff ∷ events.RegWrite 0 0 2050 0x19
    ∷ events.Submit 0 0 (read_at 0x80000fff) ∷ events.Judge 0 0 5 ∷ events.Submit 0 0 (read_at 0x80001000) ∷ [])

-- the report with `allowed 3` in place of `denied 5 - err noirq` at place 8
abbrev forged : List ℕ
forged = codes "events 9\n0 0 w 0 0x800 0x8 = 0x8\n1 0 w 0 0x1060 0x2 = 0x2\n2 0 w 0 0x8 0x1 = 0x2007\n3 0 w 0 0x2000 0x200001ff = 0x200001ff\n4 0 w 0 0x2008 0x19 = 0x19\n5 0 t 0 3 r 0x80000fff 1 = passed\n6 0 j 0 5 = allowed 3\n7 0 t 0 3 r 0x80001000 1 = passed\n8 0 j 0 7 = allowed 3\nsection 0 done\nunit 0 0x53 0x20000400 0x0 0xffff0003\nend\n"

its_own : need_of two_reads ≡ 9
its_own = refl

head : IsValidHead 0 0
head = record { unit_below = omega arith; caller_below = omega arith }

access : (addr : ℕ) → addr + 1 ≤ 2 ^ 40 → IsValidAccess (read_at addr)
access addr l = record { rrid = omega arith; shortest = omega arith; longest = omega arith; below_end = omega (arith, l) }

abbrev last_event : LoggedEvent
last_event = record { place = 8; event = events.Judge 0 0 7; reply = replies.Verdict (verdicts.Allowed 3) }

write_word : (index value : ℕ) → index < 2 ^ 22 → value < 2 ^ 32 → IsEventWord (word_of (events.RegWrite 0 0 index value))
unfolding IsEventWord
write_word index value l m = (events.RegWrite 0 0 index value, (head, l, m), refl)

read_word : (addr : ℕ) → addr + 1 ≤ 2 ^ 40 → IsTrue (is_narrow (read_at addr)) → IsEventWord (word_of (events.Submit 0 0 (read_at addr)))
unfolding IsEventWord
read_word addr l n = (events.Submit 0 0 (read_at addr), (head, access addr l, n), refl)

all_by_boot : AllByRecursion IsBoot before_last
unfolding caller_of_word
all_by_boot = (refl, (refl, (refl, (refl, (refl, (refl, (refl, (refl, tt))))))))

eight_events : IsLegalSoFar two_reads before_last
unfolding IsEventWord lib.Count.count_trailing_zeros
eight_events = record {
  events = (write_word 512 8 (omega arith) (omega arith), (write_word 1048 2 (omega arith) (omega arith), (write_word 2 1 (omega arith) (omega arith), (write_word 2048 0x200001ff (omega arith) (omega arith), (write_word 2050 0x19 (omega arith) (omega arith), (read_word 0x80000fff (omega arith) refl, ((events.Judge 0 0 5, (head, omega arith), refl), (read_word 0x80001000 (omega arith) refl, tt))))))));
  order = record { boot = before_last; others = []; is = refl; of_boot = all_by_boot; of_lanes = tt };
  boot_record = (last_event ∷ [], refl);
  boot_whole = λ any. absurd (no_lane before_last all_by_boot any);
  lane_records = tt;
}

nine_good : HasGoodLines two_reads forged 9
unfolding digits lib.Count.count_trailing_zeros
nine_good = record { count = 9; words = before_last; few = omega arith; legal = eight_events; listed = inr (omega arith, refl); there = omega arith; same = refl }
