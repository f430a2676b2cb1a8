-- Events that write no register leave what decides, so the registers after the boot section decide.
use Rattle.std.proofs.Common.{◌≡◌, ℕ, zero, suc, ◌+◌, ◌-◌, ◌<◌, ◌≤◌, inl, ◌++◌, not, ◌&&◌, ◌||◌, get_or, true, false, List, [], ◌∷◌, Some, length, filter, take, refl, sym, ap, ◌∙◌, subst, arith, ⊎_elim}
use Rattle.std.specs.Prelude.{slice_get, unwrap_or}
use Rattle.std.specs.List.{AllByRecursion}
use Rattle.std.proofs.lemmas.Bool.{cases_lt, eq-eqb, ne_eqb}
use Rattle.std.proofs.lemmas.Option.{slice_get_within, slice_get-get_or}
use Rattle.std.proofs.lemmas.List.Elements.{filter-append}
use Rattle.std.proofs.Math.Seq.{take-append_seam}
use Rattle.std.proofs.lemmas.List.{append-nil}
use Rattle.event_words.specs.declared.shape.Shape.{Shape}
use Rattle.event_words.specs.declared.access.Access.{Access}
use Rattle.event_words.specs.declared.event.Event.{Event}
use Rattle.event_words.specs.declared.event.Event.TheVariants.{RegWrite, RegRead, Submit, Judge}
use Rattle.event_words.specs.declared.reply.Decision.{Decision}
use Rattle.event_words.specs.declared.reply.Decision.TheVariants as decisions
use Rattle.event_words.specs.declared.reply.Denial.{Denial}
use Rattle.event_words.specs.declared.reply.Verdict.TheVariants as verdicts
use Rattle.event_words.specs.declared.record.LoggedEvent.{LoggedEvent}
use Rattle.event_words.specs.declared.register.Register.TheVariants.{ErrCfg, ErrInfo, ErrReqaddr, ErrReqaddrh, ErrReqid}
use Rattle.event_words.specs.Registers.{Registers, has_bit, index_of}
use Rattle.event_words.specs.Guards.{reg}
use Rattle.event_words.specs.Decisions.{decision}
use Rattle.event_words.specs.Denials.{recorded}
use Rattle.event_words.specs.Events.{caller_of}
use Rattle.event_words.specs.Runs.{caller_of_word, IsEventWord}
use Rattle.event_words.specs.Sections.{SectionOf, HasNoRegisterWrites}
use Rattle.event_words.specs.Records.{is_by}
use Rattle.event_words.proofs.Runs.{caller_of_word-word_of}
use Rattle.unit_core.specs.Units.{UnitState, unit_step}
use Rattle.unit_core.specs.Histories.{History, IsBoot, IsOfLane, BootComesFirst, IsLegalHistory, history_of, units_at, units_after, event_at, logged_in}
use Rattle.unit_core.specs.Submitted.{taken_at}
use Rattle.history_laws.specs.Verdicts.{verdict_of, decided}
use Rattle.history_laws.specs.Unwritten.{is_boot, units_after_boot, LawUnwritten}
use Rattle.unit_core.proofs.Runs.{own_state, own_next, own_at, shape_there, event_taken}
use Rattle.unit_core.proofs.Items.{submit_cases, judge_cases}
use Rattle.unit_core.proofs.Registers.{recorded_cases, recorded_other}
use Rattle.history_laws.proofs.SameTables.{DifferInRecord, same_decision}
use Rattle.history_laws.proofs.VerdictLaw.{law_verdicts}
use Rattle.history_laws.proofs.WordHistories.{length_events, word_at_place, event_at_words, units_at_words, reply_at_words, has_entry}
use Rattle.history_laws.proofs.QuietRecords.{IsNoWriteEvent}
use Rattle.history_laws.proofs.QuietRecords as quiet
use Rattle.history_laws.proofs.Writes.{all_passing, all_get, get_append, get_low}
use Rattle.history_laws.proofs.LiveLists.{keeps_all, keeps_none, lanes_quiet}

-- ---- an event that writes no register

pub differ_not : (r : Registers) → DifferInRecord r r
differ_not r = record { shape = refl; words = λ i out. refl }

differ_on : (r s t : Registers) → DifferInRecord r s → DifferInRecord s t → DifferInRecord r t
differ_on r s t a b = record { shape = a.shape ∙ b.shape; words = λ i out. a.words i out ∙ b.words i out }

recorded_differ : (r : Registers) (a : Access) (d : Denial) → DifferInRecord (recorded r a d) r
recorded_differ r a d = record {
  shape = recorded_cases (λ s. s.shape ≡ r.shape) r a d (λ info addr addrh id. refl) refl;
  words = λ i out.
      let apart : (j : ℕ) → index_of ErrInfo ≤ j → j ≤ index_of ErrReqid → i ≡ j → ⊥ =
      λ j l u e. ⊎_elim (λ (low : i < index_of ErrInfo). absurd (omega arith)) (λ (high : index_of ErrReqid < i). absurd (omega arith)) out in
      recorded_other r a d i
      (apart (index_of ErrInfo) (omega arith) (omega arith)) (apart (index_of ErrReqaddr) (omega arith) (omega arith))
      (apart (index_of ErrReqaddrh) (omega arith) (omega arith)) (apart (index_of ErrReqid) (omega arith) (omega arith));
}

no_write_step : (k : ℕ) (x : UnitState) (e : Event) → IsNoWriteEvent e → DifferInRecord (unit_step k x e).0.registers x.registers
no_write_step k x (RegWrite unit caller index value) q = absurd q
no_write_step k x (RegRead unit caller index) q = differ_not x.registers
no_write_step k x (Submit unit caller a) q =
    submit_cases (λ r. DifferInRecord r.0.registers x.registers) k x caller a (λ e. differ_not x.registers) (λ e f. differ_not x.registers) (λ d. recorded_differ x.registers a d) (differ_not x.registers)
no_write_step k x (Judge unit caller place) q =
    judge_cases (λ r. DifferInRecord r.0.registers x.registers) x place caller (λ e. differ_not x.registers) (λ item e f. differ_not x.registers) (λ item e f v. differ_not x.registers)
    (λ item e f d v. recorded_differ x.registers item.access d)
no_write_step k x _ q = differ_not x.registers

-- so for all events from a place on
abbrev pub AreNoWritesFrom : History → ℕ → Type 0
AreNoWritesFrom h n = (k : ℕ) (e : Event) → n ≤ k → event_at h k ≡ Some e → IsNoWriteEvent e

-- What a unit takes there is no write either.
pub no_write_taken : (h : History) (n k : ℕ) (e : Event) → AreNoWritesFrom h n → n ≤ k → taken_at h k ≡ Some e → IsNoWriteEvent e
no_write_taken h n k (RegWrite unit caller index value) q l at = q k (RegWrite unit caller index value) l (event_taken h k (RegWrite unit caller index value) refl at)
no_write_taken h n k _ q l at = tt

pub registers_later : (h : History) (u : ℕ) (shape : Shape) (n m : ℕ) → AreNoWritesFrom h n
    → DifferInRecord (own_state h u shape (n + m)).registers (own_state h u shape n).registers
registers_later h u shape n zero q =
    let z : n ≡ n + 0 = omega arith in
    subst (λ k. DifferInRecord (own_state h u shape k).registers (own_state h u shape n).registers) z (differ_not (own_state h u shape n).registers)
registers_later h u shape n (suc m) q =
    let z : suc (n + m) ≡ n + suc m = omega arith in
    let x = own_state h u shape (n + m) in
    let before = registers_later h u shape n m q in
    subst (λ k. DifferInRecord (own_state h u shape k).registers (own_state h u shape n).registers) z
    (own_next (λ y. DifferInRecord y.registers (own_state h u shape n).registers) (n + m) u x (taken_at h (n + m)) (λ none. before)
    (λ e at on. differ_on (unit_step (n + m) x e).0.registers x.registers (own_state h u shape n).registers (no_write_step (n + m) x e (no_write_taken h n (n + m) e q (omega arith) at)) before))

-- ---- what decides

verdict_alike : (x y : UnitState) (a : Access) (d : Decision) → DifferInRecord y.registers x.registers → verdict_of y a d ≡ verdict_of x a d
verdict_alike x y a decisions.Allowed q = ap (λ (h : Shape). verdicts.Allowed (unwrap_or h.transl a.rrid)) q.shape
verdict_alike x y a (decisions.Denied kind entry mute_irq mute_err) q =
    let cfg : reg y.registers ErrCfg ≡ reg x.registers ErrCfg = q.words (index_of ErrCfg) (inl (omega arith)) in
    ap (λ n. verdicts.Denied (let d : Denial = record { kind = kind; entry = entry; quiet = has_bit n 2 || mute_err; irq = has_bit n 1 && not mute_irq; kept = not (mute_irq && mute_err) } in d)) cfg

pub decided_alike : (x y : UnitState) (a : Access) → DifferInRecord y.registers x.registers → decided y a ≡ decided x a
decided_alike x y a q = verdict_alike x y a (decision y.registers a) q ∙ ap (verdict_of x a) (same_decision y.registers x.registers q a)

-- ---- the boot section's events come first

pub boot_words : (lanes : ℕ) (words : List ℕ) (b : BootComesFirst lanes words) → filter is_boot words ≡ b.boot
boot_words lanes words b =
    ap (filter is_boot) b.is
    ∙ filter-append is_boot b.boot b.others
    ∙ ap (λ ws. ws ++ filter is_boot b.others) (keeps_all is_boot b.boot (boots b.boot b.of_boot))
    ∙ ap (λ ws. b.boot ++ ws) (keeps_none is_boot b.others (others b.others b.of_lanes))
    ∙ append-nil b.boot
  where
    boots : (ws : List ℕ) → AllByRecursion IsBoot ws → AllByRecursion (λ w. is_boot w ≡ true) ws
    boots [] h = tt
    boots (w ∷ ws) h = (eq-eqb (caller_of_word w) 0 h.0, boots ws h.1)

    others : (ws : List ℕ) → AllByRecursion (IsOfLane lanes) ws → AllByRecursion (λ w. is_boot w ≡ false) ws
    others [] h = tt
    others (w ∷ ws) h = (ne_eqb (caller_of_word w) 0 (λ e. let l = h.0.0 in absurd (omega arith)), others ws h.1)

-- The units before the first event of a lane.
pub units_booted : (shapes : List Shape) (lanes : ℕ) (words : List ℕ) → AllByRecursion IsEventWord words → (b : BootComesFirst lanes words)
    → units_at (history_of shapes words) (length b.boot) ≡ units_after_boot shapes words
units_booted shapes lanes words all b =
    units_at_words shapes words all (length b.boot)
    ∙ ap (λ ws. units_after shapes (take (length b.boot) ws)) b.is
    ∙ ap (units_after shapes) (take-append_seam b.boot b.others)
    ∙ ap (units_after shapes) (sym (boot_words lanes words b))

-- who makes the event at a place
record HasBearer (words : List ℕ) (k : ℕ) (e : Event) : Type 0 where
  pub word : ℕ
  pub at : slice_get words k ≡ Some word
  pub caller : caller_of_word word ≡ caller_of e

caller_at : (shapes : List Shape) (words : List ℕ) → AllByRecursion IsEventWord words → (k : ℕ) (e : Event)
    → event_at (history_of shapes words) k ≡ Some e → HasBearer words k e
caller_at shapes words all k e q =
    let l : k < length words = subst (λ n. k < n) (length_events words all) (slice_get_within _ k e q) in
    let w = get_or words k 0 in
    let at : slice_get words k ≡ Some w = slice_get-get_or words k 0 l in
    let has = word_at_place words all k w at in
    let same : Some has.event ≡ Some e = sym (event_at_words shapes words all k w has.event at has.back) ∙ q in
    let is : has.event ≡ e = cc in
    record { word = w; at = at; caller = ap caller_of_word has.is ∙ caller_of_word-word_of has.event has.valid ∙ ap caller_of is }

pub boot_before : (shapes : List Shape) (lanes : ℕ) (words : List ℕ) → AllByRecursion IsEventWord words
    → (b : BootComesFirst lanes words) (k : ℕ) (e : Event) → event_at (history_of shapes words) k ≡ Some e → 1 ≤ caller_of e
    → length b.boot ≤ k
boot_before shapes lanes words all b k e q l = ⊎_elim
    (λ (low : k < length b.boot).
    let h = caller_at shapes words all k e q in
    let at : slice_get b.boot k ≡ Some h.word = sym (get_low b.boot b.others k low) ∙ ap (λ ws. slice_get ws k) (sym b.is) ∙ h.at in
    let zero_is = all_get IsBoot b.boot k h.word b.of_boot at in
    let c = h.caller in
    absurd (omega arith))
    (λ (high : length b.boot ≤ k). high)
    (cases_lt k (length b.boot))

pub lane_after_boot : (shapes : List Shape) (lanes : ℕ) (words : List ℕ) → AllByRecursion IsEventWord words
    → (b : BootComesFirst lanes words) (k : ℕ) (e : Event) → event_at (history_of shapes words) k ≡ Some e → length b.boot ≤ k
    → (1 ≤ caller_of e) × (caller_of e ≤ lanes)
lane_after_boot shapes lanes words all b k e q l =
    let h = caller_at shapes words all k e q in
    let z : k ≡ length b.boot + (k - length b.boot) = omega arith in
    let at : slice_get b.others (k - length b.boot) ≡ Some h.word =
    sym (get_append b.boot b.others (k - length b.boot)) ∙ ap (slice_get (b.boot ++ b.others)) (sym z) ∙ ap (λ ws. slice_get ws k) (sym b.is) ∙ h.at in
    subst (λ n. (1 ≤ n) × (n ≤ lanes)) h.caller (all_get (IsOfLane lanes) b.others (k - length b.boot) h.word b.of_lanes at)

-- Each event is of the boot section's caller, or of a lane's.
pub caller_within : (shapes : List Shape) (lanes : ℕ) (words : List ℕ) → AllByRecursion IsEventWord words → BootComesFirst lanes words
    → (k : ℕ) (e : Event) → event_at (history_of shapes words) k ≡ Some e → caller_of e < lanes + 1
caller_within shapes lanes words all b k e q = ⊎_elim
    (λ (boot : caller_of e < 1). omega arith)
    (λ (some : 1 ≤ caller_of e). let c = lane_after_boot shapes lanes words all b k e q (boot_before shapes lanes words all b k e q some) in let u = c.1 in omega arith)
    (cases_lt (caller_of e) 1)

-- ---- lanes that write nothing

-- No event after the boot section's writes a register.
pub no_writes : (shapes : List Shape) (boot : SectionOf) (lanes : List SectionOf) (words : List ℕ)
    → (legal : IsLegalHistory shapes boot lanes words) → AllByRecursion HasNoRegisterWrites lanes
    → AreNoWritesFrom (history_of shapes words) (length legal.order.boot)
no_writes shapes boot lanes words legal q k e l at =
    let all = legal.events in
    let c = lane_after_boot shapes (length lanes) words all legal.order k e at l in
    let h = caller_at shapes words all k e at in
    let entry = has_entry shapes words all k e _ at (reply_at_words shapes words all k h.word h.at) in
    let own = lanes_quiet (logged_in shapes words) 1 lanes legal.lane_records q (caller_of e) c.0 (let u = c.1 in omega arith) in
    let each = all_passing quiet.IsNoLoggedWrite (is_by (caller_of e)) (logged_in shapes words) own in
    all_get (λ (x : LoggedEvent). is_by (caller_of e) x ≡ true → quiet.IsNoLoggedWrite x) (logged_in shapes words) k _ each entry (eq-eqb (caller_of e) (caller_of e) refl)

-- ---- the law

pub law_unwritten : LawUnwritten
law_unwritten shapes boot lanes words legal q u caller place p v some event reply =
    let h = history_of shapes words in
    let n = length legal.order.boot in
    let is = law_verdicts (history_of shapes words) u caller place p v event reply in
    let there = shape_there (history_of shapes words) u p is.state is.here in
    let later : n ≤ p = boot_before shapes (length lanes) words legal.events legal.order p (Judge u caller place) event some in
    let x = own_state (history_of shapes words) u there.0 n in
    let z : n + (p - n) ≡ p = omega arith in
    let differ : DifferInRecord is.state.registers x.registers =
    subst (λ (y : UnitState). DifferInRecord y.registers x.registers) (ap (own_state (history_of shapes words) u there.0) z ∙ there.2)
    (registers_later (history_of shapes words) u there.0 n (p - n) (no_writes shapes boot lanes words legal q)) in
    record {
      access = is.access;
      state = x;
      submission = is.submission;
      booted = ap (λ us. slice_get us u) (sym (units_booted shapes (length lanes) words legal.events legal.order)) ∙ own_at (history_of shapes words) u n there.0 there.1;
      verdict_is = is.verdict_is ∙ decided_alike x is.state is.access differ;
    }
