-- A legal history of a generated script is summarized by what its tables decide.
use Rattle.std.proofs.Common.{◌≡◌, ℕ, zero, suc, ◌+◌, ◌*◌, ◌/◌, ◌<◌, ◌≤◌, ◌++◌, false, cond, List, [], ◌∷◌, Option, Some, None, length, map, flat_map, sum_by, replicate, length-append, refl, sym, ap, ◌∙◌, subst, arith, add-one, zero-add}
use Rattle.std.specs.Prelude.{slice_get, count_by, codes, option_map}
use Rattle.std.specs.List.{AllByRecursion, range_with_len}
use Rattle.std.specs.Fmt.{decimal}
use Rattle.std.proofs.Math.Path.{fun_ext}
use Rattle.std.proofs.lemmas.List.{length-map, map-append}
use Rattle.std.proofs.lemmas.List.Sums.{sum_by-cons, sum_by-append}
use Rattle.std.proofs.lemmas.List.FromFn.{length-map-range_with_len}
use Rattle.event_words.specs.declared.shape.Shape.{Shape}
use Rattle.event_words.specs.declared.access.Access.{Access}
use Rattle.event_words.specs.declared.event.Event.{Event}
use Rattle.event_words.specs.declared.event.Event.TheVariants as events
use Rattle.event_words.specs.declared.reply.Decision.TheVariants as decisions
use Rattle.event_words.specs.declared.record.LoggedEvent.{LoggedEvent}
use Rattle.event_words.specs.Events.{caller_of}
use Rattle.event_words.specs.Decisions.{decision}
use Rattle.event_words.specs.declared.reply.Reply.TheVariants as replies
use Rattle.event_words.specs.Runs.{IsEventWord}
use Rattle.event_words.specs.Sections.{SectionOf, HasNoRegisterWrites}
use Rattle.event_words.specs.Records.{end_of_commands, events_by, is_by}
use Rattle.event_words.specs.Stalls.{flag_of}
use Rattle.policy_compiler.specs.declared.image.RegPair.{RegPair}
use Rattle.unit_core.specs.Units.{UnitState, event_step, step_at}
use Rattle.unit_core.specs.Histories.{IsLegalHistory, HasRecord, HaveRecords, history_of, aims_at, units_at, event_at, logged_in}
use Rattle.history_laws.specs.Verdicts.{decided}
use Rattle.history_laws.specs.Unwritten.{units_after_boot}
use Rattle.unit_core.proofs.Runs.{own_state}
use Rattle.history_laws.proofs.Writes.{all_filter, some_of}
use Rattle.history_laws.proofs.WriteRecords.{event_of, write_by}
use Rattle.history_laws.proofs.WordHistories.{is_entry}
use Rattle.event_words.proofs.Pairs.{pairs_of}
use Rattle.event_words.proofs.CallerSums.{totals, sum_is}
use Rattle.event_words.proofs.ListItems.{all_of}
use Rattle.history_laws.proofs.UnwrittenLaw.{caller_within}
use Rattle.history_laws.proofs.Unstalled.{from_each, IsUnstalled, IsUnwritten, IsPassed, IsAnswered, state_booted, all_passed, pairs_answered}
use Rattle.history_laws.proofs.BootWrites.{LeavesFlags, idle, boot_entries, booted_unit}
use Rattle.script_generator.specs.GeneratedScripts.{draw, drawn_access, transaction, lane_after, generated_lane, generated_shape, write_at, boot_writes, generated_boot, generated_script}
use Rattle.history_laws.proofs.VerdictKinds.{verdict_kind}
use Rattle.script_generator.specs.Summaries.{is_code, denied_lines, summary_text, reply_code, entry_code, verdict_codes, submitted, lane_accesses, generated_registers, decided_code, soak_text}
use Rattle.script_generator.specs.SoakHistories.{IsSoak}
use Rattle.script_generator.proofs.GeneratedSound.{generated_quiet, each_lane, drawn_narrow}
use Rattle.script_generator.proofs.LaneVerdicts.{judged_accesses, IsNarrow, PassesHere, IsDecidedNext, lane_codes}
use Rattle.script_generator.proofs.VerdictWeights.{weight, entry_weight, codes_weight}
use Rattle.script_reader.proofs.Needs.{length_sum}

-- ---- lanes of judged transactions

abbrev slot_access : ℕ → ℕ → Access
slot_access x slot = drawn_access (draw x (suc slot))

lane_is : (x i n : ℕ) → flat_map (transaction x) (range_with_len i n) ≡ judged_accesses i (map (slot_access x) (range_with_len i n))
lane_is x i zero = refl
lane_is x i (suc n) = ap (λ cs. transaction x i ++ cs) (lane_is x (i + 1) n)

accesses_are : (x i n : ℕ) → flat_map submitted (flat_map (transaction x) (range_with_len i n)) ≡ map (slot_access x) (range_with_len i n)
accesses_are x i zero = refl
accesses_are x i (suc n) = ap (λ more. slot_access x i ∷ more) (accesses_are x (i + 1) n)

all_narrow : (x i n : ℕ) → AllByRecursion IsNarrow (map (slot_access x) (range_with_len i n))
all_narrow x i zero = tt
all_narrow x i (suc n) = (drawn_narrow (draw x (suc i)), all_narrow x (i + 1) n)

-- so many transactions of a lane, each judged
pub record IsJudgedLane (count : ℕ) (s : SectionOf) : Type 0 where
  pub commands : s.commands ≡ judged_accesses 0 (lane_accesses s)
  pub count_is : length (lane_accesses s) ≡ count
  pub narrow : AllByRecursion IsNarrow (lane_accesses s)

lane_judged : (count x : ℕ) → IsJudgedLane count (lane_after count x)
lane_judged count x = record {
  commands = lane_is x 0 count ∙ ap (judged_accesses 0) (sym (accesses_are x 0 count));
  count_is = ap length (accesses_are x 0 count) ∙ length-map-range_with_len (slot_access x) 0 count;
  narrow = subst (AllByRecursion IsNarrow) (sym (accesses_are x 0 count)) (all_narrow x 0 count);
}

generated_judged : (number lane : ℕ) → IsJudgedLane 4096 (generated_lane number lane)
unfolding generated_lane
generated_judged number lane = lane_judged 4096 (draw number (lane * 4096))

-- ---- the unit after the boot section

abbrev booted : UnitState
booted = idle generated_registers (replicate 3 false)

none_flagged : (n s : ℕ) → flag_of (replicate n false) s ≡ false
none_flagged zero s = refl
none_flagged (suc n) zero = refl
none_flagged (suc n) (suc s) = none_flagged n s

leaves : (offset value : ℕ) → (offset / 4 ≡ 12 → ⊥) → (offset / 4 ≡ 14 → ⊥) → LeavesFlags (write_at offset value)
leaves offset value p q = record { not_mdstall = p; not_rridscp = q }

leave : AllByRecursion LeavesFlags boot_writes
leave = (
  leaves 0x10 0x1 (λ e. absurd (omega arith)) (λ e. absurd (omega arith)),
  (
    leaves 0x800 0x2 (λ e. absurd (omega arith)) (λ e. absurd (omega arith)),
    (
      leaves 0x804 0x4 (λ e. absurd (omega arith)) (λ e. absurd (omega arith)),
      (
        leaves 0x1000 0x2 (λ e. absurd (omega arith)) (λ e. absurd (omega arith)),
        (
          leaves 0x1020 0x4 (λ e. absurd (omega arith)) (λ e. absurd (omega arith)),
          (
            leaves 0x1040 0x6 (λ e. absurd (omega arith)) (λ e. absurd (omega arith)),
            (
              leaves 0x2000 0x200001ff (λ e. absurd (omega arith)) (λ e. absurd (omega arith)),
              (
                leaves 0x2008 0x19 (λ e. absurd (omega arith)) (λ e. absurd (omega arith)),
                (
                  leaves 0x2010 0x20000fff (λ e. absurd (omega arith)) (λ e. absurd (omega arith)),
                  (
                    leaves 0x2018 0x1b (λ e. absurd (omega arith)) (λ e. absurd (omega arith)),
                    (
                      leaves 0x2020 0x20001000 (λ e. absurd (omega arith)) (λ e. absurd (omega arith)),
                      (
                        leaves 0x2030 0x20003000 (λ e. absurd (omega arith)) (λ e. absurd (omega arith)),
                        (
                          leaves 0x2038 0xd (λ e. absurd (omega arith)) (λ e. absurd (omega arith)),
                          (
                            leaves 0x8 0x1 (λ e. absurd (omega arith)) (λ e. absurd (omega arith)),
                            tt,
                          ),
                        ),
                      ),
                    ),
                  ),
                ),
              ),
            ),
          ),
        ),
      ),
    ),
  ),
)

generated_boots : (lanes : List SectionOf) (words : List ℕ) → IsLegalHistory (generated_shape ∷ []) generated_boot lanes words → units_after_boot (generated_shape ∷ []) words ≡ booted ∷ []
unfolding generated_registers
generated_boots lanes words legal = booted_unit generated_shape generated_boot lanes words boot_writes refl leave legal

-- ---- a write replies no verdict

silent_step : (k : ℕ) (aims : List ℕ) (us : List UnitState) (u c i v : ℕ) → reply_code (event_step k aims us (events.RegWrite u c i v)).1 ≡ None
silent_step k aims us u c i v = by (slice_get us u)
  where
    by : (o : Option UnitState) → reply_code (step_at k us (events.RegWrite u c i v) u o).1 ≡ None
    by None = refl
    by (Some x) = refl

abbrev IsSilent : LoggedEvent → Type 0
IsSilent x = (u c i v : ℕ) → x.event ≡ events.RegWrite u c i v → entry_code x ≡ None

silent_entry : (shapes : List Shape) (words : List ℕ) → AllByRecursion IsEventWord words → (k : ℕ) (x : LoggedEvent) → slice_get (logged_in shapes words) k ≡ Some x → IsSilent x
silent_entry shapes words all k x at u c i v q =
    let h = history_of shapes words in
    let e = is_entry shapes words all k x at in
    let event : event_at (history_of shapes words) k ≡ Some (events.RegWrite u c i v) = e.event ∙ ap (λ w. Some w) q in
    let replied : Some (event_step k (aims_at (history_of shapes words) k) (units_at (history_of shapes words) k) (events.RegWrite u c i v)).1 ≡ Some x.reply =
    sym (ap (option_map (λ (w : Event). (event_step k (aims_at (history_of shapes words) k) (units_at (history_of shapes words) k) w).1)) event) ∙ e.reply in
    let same : (event_step k (aims_at (history_of shapes words) k) (units_at (history_of shapes words) k) (events.RegWrite u c i v)).1 ≡ x.reply = cc in
    ap reply_code (sym same) ∙ silent_step k (aims_at (history_of shapes words) k) (units_at (history_of shapes words) k) u c i v

no_weight : (g : ℕ → ℕ) (xs : List LoggedEvent) (ps : List RegPair) → map event_of xs ≡ map (write_by 0) ps → AllByRecursion IsSilent xs → sum_by (entry_weight g) xs ≡ 0
no_weight g [] ps e h = refl
no_weight g (x ∷ xs) [] e h = absurd (let n : x.event ∷ map event_of xs ≡ [] = e in cc)
no_weight g (x ∷ xs) (p ∷ ps) e h =
    let first : x.event ≡ write_by 0 p = cc in
    let rest : map event_of xs ≡ map (write_by 0) ps = cc in
    let none : entry_weight g x ≡ 0 = ap (weight g) (h.0 0 0 p.index p.value first) in
    omega (arith, sum_by-cons (entry_weight g) x xs, none, no_weight g xs ps rest h.1)

-- ---- the codes of a legal history

abbrev shapes : List Shape
shapes = generated_shape ∷ []

-- a unit that is there is the one after the boot section
only : (u : ℕ) (x : UnitState) → slice_get (booted ∷ []) u ≡ Some x → booted ≡ x
only zero x e = cc
only (suc u) x e = absurd (let n : None ≡ Some x = e in cc)

calm : IsUnstalled booted
calm = record { no_flag = λ s. none_flagged 3 s; items = tt }

module _ (lanes : List SectionOf) (words : List ℕ) (legal : IsLegalHistory shapes generated_boot lanes words) (silent : AllByRecursion HasNoRegisterWrites lanes) where
  abbrev xs : List LoggedEvent
  xs = logged_in shapes words

  unwritten : IsUnwritten shapes generated_boot lanes words
  unwritten = record {
    legal = legal;
    quiet = silent;
    unstalled = λ u x q. subst IsUnstalled (only u x (sym (ap (λ us. slice_get us u) (generated_boots lanes words legal)) ∙ q)) calm;
  }

  state_is : own_state (history_of shapes words) 0 generated_shape (length unwritten.legal.order.boot) ≡ booted
  state_is = sym (only 0 _ (sym (ap (λ us. slice_get us 0) (generated_boots lanes words legal)) ∙ state_booted shapes generated_boot lanes words unwritten 0 generated_shape refl))

  codes_of_lane : (c : ℕ) (s : SectionOf) → 1 ≤ c → IsJudgedLane 4096 s → HasRecord xs c s → verdict_codes (events_by c xs) ≡ map decided_code (lane_accesses s)
  codes_of_lane c s some lane recorded =
      let own = events_by c (logged_in shapes words) in
      let ended = some_of (end_of_commands c s.commands [] (events_by c (logged_in shapes words))) recorded in
      let cut = subst (λ cs. end_of_commands c cs [] (events_by c (logged_in shapes words)) ≡ Some ended.0) lane.commands ended.1 in
      let passes = all_of (IsPassed shapes generated_boot lanes words unwritten c) (PassesHere c (decided booted)) (events_by c (logged_in shapes words)) (λ x p a e. p 0 generated_shape a refl e) (all_passed shapes generated_boot lanes words unwritten c some) in
      let pairs = pairs_of (IsAnswered shapes generated_boot lanes words unwritten c) (IsDecidedNext c (decided booted)) (events_by c (logged_in shapes words))
      (λ x y p a e f. p 0 generated_shape a refl e f ∙ ap (λ s. replies.Verdict (decided s a)) state_is) (pairs_answered shapes generated_boot lanes words unwritten c some) in
      lane_codes c (decided booted) (lane_accesses s) [] (events_by c (logged_in shapes words)) ended.0 cut lane.narrow passes pairs
      ∙ ap (λ f. map f (lane_accesses s)) (fun_ext (λ a. verdict_kind booted a (decision generated_registers a)))

  lanes_total : (g : ℕ → ℕ) (ss : List SectionOf) (i : ℕ) → 1 ≤ i → AllByRecursion (IsJudgedLane 4096) ss → HaveRecords xs i ss → totals (entry_weight g) xs i (length ss) ≡ sum_by g (map decided_code (flat_map lane_accesses ss))
  lanes_total g [] i some judged records = refl
  lanes_total g (s ∷ ss) i some judged records =
      let own : sum_by (entry_weight g) (events_by i xs) ≡ sum_by g (map decided_code (lane_accesses s)) =
      sym (codes_weight g (events_by i xs)) ∙ ap (sum_by g) (codes_of_lane i s some judged.0 records.0) in
      let rest = lanes_total g ss (i + 1) (omega arith) judged.1 records.1 in
      ap (λ n. n + totals (entry_weight g) xs (i + 1) (length ss)) own
      ∙ ap (λ n. sum_by g (map decided_code (lane_accesses s)) + n) rest
      ∙ sym (ap (sum_by g) (map-append decided_code (lane_accesses s) (flat_map lane_accesses ss)) ∙ sum_by-append g (map decided_code (lane_accesses s)) (map decided_code (flat_map lane_accesses ss)))

  callers : AllByRecursion (λ (x : LoggedEvent). caller_of x.event < length lanes + 1) xs
  callers = from_each (λ (x : LoggedEvent). caller_of x.event < length lanes + 1) xs (λ k x at. caller_within shapes (length lanes) words legal.events legal.order k x.event (is_entry shapes words legal.events k x at).event)

  no_boot : (g : ℕ → ℕ) → sum_by (entry_weight g) (events_by 0 xs) ≡ 0
  no_boot g =
      no_weight g (events_by 0 xs) boot_writes (boot_entries shapes generated_boot lanes words boot_writes refl legal)
      (all_filter IsSilent (is_by 0) xs (from_each IsSilent xs (λ k x at. silent_entry shapes words legal.events k x at)))

  -- However the codes of verdicts are weighed, those of the history weigh what those of the tables do.
  pub same_weight : AllByRecursion (IsJudgedLane 4096) lanes → (g : ℕ → ℕ) → sum_by g (verdict_codes xs) ≡ sum_by g (map decided_code (flat_map lane_accesses lanes))
  same_weight judged g =
      codes_weight g xs
      ∙ sum_is (entry_weight g) xs (length lanes + 1) callers
      ∙ ap (totals (entry_weight g) xs 0) (add-one (length lanes))
      ∙ ap (λ n. n + totals (entry_weight g) xs 1 (length lanes)) (no_boot g)
      ∙ zero-add (totals (entry_weight g) xs 1 (length lanes))
      ∙ lanes_total g lanes 1 (omega arith) judged legal.lane_records

-- ---- the summary

same_lines : (ns ms : List ℕ) → ((g : ℕ → ℕ) → sum_by g ns ≡ sum_by g ms) → denied_lines ns ≡ denied_lines ms
unfolding denied_lines
same_lines ns ms h =
    ap (λ f. flat_map f (range_with_len 1 7))
    (fun_ext (λ code. ap (λ n. codes "denied " ++ (decimal code ++ (codes " " ++ (decimal n ++ codes "\n")))) (h (λ m. cond (is_code code m) 1 0))))

same_summary : (number : ℕ) (ns ms : List ℕ) → ((g : ℕ → ℕ) → sum_by g ns ≡ sum_by g ms) → summary_text number ns ≡ summary_text number ms
same_summary number ns ms h =
    let all : length ns ≡ length ms = length_sum ns ∙ h (λ n. 1) ∙ sym (length_sum ms) in
    ap (λ n. codes "soak " ++ (decimal number ++ (codes "\nverdicts " ++ (decimal n ++ (codes "\nallowed " ++ (decimal (count_by (is_code 0) ns) ++ (codes "\n" ++ (denied_lines ns ++ codes "end\n")))))))) all
    ∙ ap (λ n. codes "soak " ++ (decimal number ++ (codes "\nverdicts " ++ (decimal (length ms) ++ (codes "\nallowed " ++ (decimal n ++ (codes "\n" ++ (denied_lines ns ++ codes "end\n")))))))) (h (λ m. cond (is_code 0 m) 1 0))
    ∙ ap (λ l. codes "soak " ++ (decimal number ++ (codes "\nverdicts " ++ (decimal (length ms) ++ (codes "\nallowed " ++ (decimal (count_by (is_code 0) ms) ++ (codes "\n" ++ (l ++ codes "end\n")))))))) (same_lines ns ms h)

-- ---- how many there are

all_accesses : (ss : List SectionOf) → AllByRecursion (IsJudgedLane 4096) ss → length (flat_map lane_accesses ss) ≡ length ss * 4096
all_accesses [] h = refl
all_accesses (s ∷ ss) h = length-append (lane_accesses s) (flat_map lane_accesses ss) ∙ omega (arith, h.0.count_is, all_accesses ss h.1)

-- ---- the generated script

pub soaked : (number : ℕ) (words : List ℕ) → IsLegalHistory (generated_script number).shapes (generated_script number).boot (generated_script number).lanes words → IsSoak number words
unfolding generated_script soak_text
soaked number words legal =
    let lanes = map (generated_lane number) (range_with_len 0 8) in
    let judged = each_lane (IsJudgedLane 4096) number 0 8 (generated_judged number) in
    let silent = each_lane HasNoRegisterWrites number 0 8 (generated_quiet number) in
    let weight = same_weight (map (generated_lane number) (range_with_len 0 8)) words legal silent judged in
    let few = length-map-range_with_len (generated_lane number) 0 8 in
    let many = all_accesses (map (generated_lane number) (range_with_len 0 8)) judged in
    let ns = verdict_codes (logged_in shapes words) in
    let ms = map decided_code (flat_map lane_accesses (map (generated_lane number) (range_with_len 0 8))) in
    record {
      legal = legal;
      all = length_sum ns ∙ weight (λ n. 1) ∙ sym (length_sum ms) ∙ length-map _ decided_code ∙ many ∙ ap (λ n. n * 4096) few;
      counted = sym (same_summary number ns ms weight);
    }
