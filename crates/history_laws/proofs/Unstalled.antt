-- Where no requester is stalled and no lane writes a register, each submission of a lane passes, and a
-- judgement of it that comes next replies what the registers after the boot section decide.
use Rattle.std.proofs.Common.{◌≡◌, ℕ, zero, suc, ◌+◌, ◌-◌, ◌≤◌, inl, not, Bool, true, false, if◌then◌else◌, List, [], ◌∷◌, Some, length, refl, sym, ap, ◌∙◌, subst, arith, ⊎_elim}
use Rattle.std.specs.Prelude.{slice_get}
use Rattle.std.specs.List.{AllByRecursion}
use Rattle.std.proofs.lemmas.Bool.{eq-eqb, false≢true}
use Rattle.event_words.specs.declared.shape.Shape.{Shape}
use Rattle.event_words.specs.declared.access.Access.{Access}
use Rattle.event_words.specs.declared.event.Event.{Event}
use Rattle.event_words.specs.declared.event.Event.TheVariants.{RegWrite, RegRead, Submit, Judge}
use Rattle.event_words.specs.declared.reply.Reply.{Reply}
use Rattle.event_words.specs.declared.reply.Reply.TheVariants as replies
use Rattle.event_words.specs.declared.reply.Verdict.{Verdict}
use Rattle.event_words.specs.declared.record.LoggedEvent.{LoggedEvent}
use Rattle.event_words.specs.Events.{caller_of}
use Rattle.event_words.specs.Sections.{SectionOf, HasNoRegisterWrites}
use Rattle.event_words.specs.Records.{events_by, is_by}
use Rattle.unit_core.specs.declared.Submission.{Submission}
use Rattle.unit_core.specs.Submissions.{is_item}
use Rattle.event_words.specs.Stalls.{flag_of}
use Rattle.unit_core.specs.Units.{UnitState, unit_step, opened, submit_step, judge_step, is_stalled}
use Rattle.unit_core.specs.Histories.{History, IsLegalHistory, history_of, event_at, reply_at, logged_in}
use Rattle.unit_core.specs.Submitted.{taken_at}
use Rattle.history_laws.specs.Tickets.{IsTaken, IsOwnJudgement}
use Rattle.history_laws.specs.Verdicts.{decided}
use Rattle.history_laws.specs.Unwritten.{units_after_boot}
use Rattle.unit_core.proofs.Runs.{own_state, own_next, own_at, as_it_is, reply_is, reply_of, submission_taken, submit_of}
use Rattle.unit_core.proofs.Items.{submit_cases, judge_cases, items_step, all_found, released_cases}
use Rattle.history_laws.proofs.QuietRecords.{IsNoWriteEvent}
use Rattle.history_laws.proofs.Writes.{all_filter}
use Rattle.event_words.proofs.Pairs.{AllPairs, AreNeighbours, pairs_filtered}
use Rattle.history_laws.proofs.TicketReplies.{judged_open}
use Rattle.history_laws.proofs.WordHistories.{is_entry, has_entry}
use Rattle.history_laws.proofs.UnwrittenLaw.{AreNoWritesFrom, no_write_taken, boot_before, units_booted, no_writes, law_unwritten}

pub from_each : {X : Type 0} (P : X → Type 0) (xs : List X) → ((k : ℕ) (x : X) → slice_get xs k ≡ Some x → P x) → AllByRecursion P xs
from_each P [] each = tt
from_each P (x ∷ xs) each = (each 0 x refl, from_each P xs (λ k y at. each (suc k) y at))

-- ---- states in which nobody is stalled

abbrev IsFree : Submission → Type 0
IsFree item = item.queued ≡ false

pub record IsUnstalled (x : UnitState) : Type 0 where
  pub no_flag : (s : ℕ) → is_stalled x s ≡ false
  pub items : AllByRecursion IsFree x.submissions

flags_step : (k : ℕ) (x : UnitState) (e : Event) → IsNoWriteEvent e → (unit_step k x e).0.flags ≡ x.flags
flags_step k x (RegWrite unit caller index value) q = absurd q
flags_step k x (RegRead unit caller index) q = refl
flags_step k x (Submit unit caller a) q = submit_cases (λ r. r.0.flags ≡ x.flags) k x caller a (λ e. refl) (λ e f. refl) (λ d. refl) refl
flags_step k x (Judge unit caller place) q = judge_cases (λ r. r.0.flags ≡ x.flags) x place caller (λ e. refl) (λ item e f. refl) (λ item e f v. refl) (λ item e f d v. refl)
flags_step k x _ q = refl

unstalled_step : (k : ℕ) (x : UnitState) (e : Event) → IsNoWriteEvent e → IsUnstalled x → IsUnstalled (unit_step k x e).0
unstalled_step k x e q c = record {
  no_flag = λ s. ap (λ fs. flag_of fs s) (flags_step k x e q) ∙ c.no_flag s;
  items = items_step IsFree IsFree k x e (λ item f. f) (λ item f. released_cases IsFree _ item (λ t. f) (λ t. refl)) (λ unit caller a queued t stalled taken. sym stalled ∙ c.no_flag a.rrid) c.items;
}

unstalled_later : (h : History) (u : ℕ) (shape : Shape) (n m : ℕ) → AreNoWritesFrom h n → IsUnstalled (own_state h u shape n)
    → IsUnstalled (own_state h u shape (n + m))
unstalled_later h u shape n zero q c = let z : n ≡ n + 0 = omega arith in subst (λ k. IsUnstalled (own_state h u shape k)) z c
unstalled_later h u shape n (suc m) q c =
    let z : suc (n + m) ≡ n + suc m = omega arith in
    let x = own_state h u shape (n + m) in
    let before = unstalled_later h u shape n m q c in
    subst (λ k. IsUnstalled (own_state h u shape k)) z
    (own_next IsUnstalled (n + m) u x (taken_at h (n + m)) (λ none. before) (λ e at on. unstalled_step (n + m) x e (no_write_taken h n (n + m) e q (omega arith) at) before))

by_flag : (b : Bool) (x y : UnitState × Reply) → b ≡ false → x.1 ≡ replies.Passed → (if not b then x else y).1 ≡ replies.Passed
by_flag true x y e h = absurd (let n : true ≡ false = e in cc)
by_flag false x y e h = h

pub passes : (k : ℕ) (x : UnitState) (caller : ℕ) (a : Access) → is_stalled x a.rrid ≡ false → (submit_step k x caller a).1 ≡ replies.Passed
passes k x caller a e = by_flag (is_stalled x a.rrid) (opened k caller a false x, replies.Passed) _ e refl

not_held : (x : UnitState) (place caller : ℕ) → AllByRecursion IsFree x.submissions → (judge_step x place caller).1 ≡ replies.Held → ⊥
not_held x place caller free =
    judge_cases (λ r. r.1 ≡ replies.Held → ⊥) x place caller (λ e q. cc)
    (λ item e f q. false≢true (sym (all_found IsFree (is_item place caller) x.submissions item e free).0 ∙ f))
    (λ item e f v q. cc) (λ item e f d v q. cc)

-- ---- legal histories

-- The lanes write nothing, and after the boot section's events nobody is stalled.
pub record IsUnwritten (shapes : List Shape) (boot : SectionOf) (lanes : List SectionOf) (words : List ℕ) : Type 0 where
  pub legal : IsLegalHistory shapes boot lanes words
  pub quiet : AllByRecursion HasNoRegisterWrites lanes
  pub unstalled : (u : ℕ) (x : UnitState) → slice_get (units_after_boot shapes words) u ≡ Some x → IsUnstalled x

module _ (shapes : List Shape) (boot : SectionOf) (lanes : List SectionOf) (words : List ℕ) (g : IsUnwritten shapes boot lanes words) where
  abbrev h : History
  h = history_of shapes words

  abbrev n : ℕ
  n = length g.legal.order.boot

  -- The unit before the first event of a lane.
  pub state_booted : (u : ℕ) (shape : Shape) → slice_get shapes u ≡ Some shape
      → slice_get (units_after_boot shapes words) u ≡ Some (own_state h u shape n)
  state_booted u shape q = ap (λ us. slice_get us u) (sym (units_booted shapes (length lanes) words g.legal.events g.legal.order)) ∙ own_at h u n shape q

  unstalled_at : (u : ℕ) (shape : Shape) → slice_get shapes u ≡ Some shape → (k : ℕ) → n ≤ k → IsUnstalled (own_state h u shape k)
  unstalled_at u shape q k l =
      let z : n + (k - n) ≡ k = omega arith in
      subst (λ j. IsUnstalled (own_state h u shape j)) z
      (unstalled_later h u shape n (k - n) (no_writes shapes boot lanes words g.legal g.quiet) (g.unstalled u (own_state h u shape n) (state_booted u shape q)))

  after_boot : (k : ℕ) (e : Event) → event_at h k ≡ Some e → 1 ≤ caller_of e → n ≤ k
  after_boot k e q l = boot_before shapes (length lanes) words g.legal.events g.legal.order k e q l

  pub passed_at : (u : ℕ) (shape : Shape) (c k : ℕ) (a : Access) → slice_get shapes u ≡ Some shape → 1 ≤ c
      → event_at h k ≡ Some (Submit u c a) → reply_at h k ≡ Some replies.Passed
  passed_at u shape c k a q l event =
      let x = own_state h u shape k in
      let calm = unstalled_at u shape q k (after_boot k (Submit u c a) event l) in
      reply_of h k (Submit u c a) u x refl (as_it_is h k (Submit u c a) refl event) (own_at h u k shape q) ∙ ap (λ r. Some r) (passes k x c a (calm.no_flag a.rrid))

  -- A submission of a caller, and its next event, a judgement of it: this is the reply.
  abbrev pub IsAnswered : ℕ → LoggedEvent → LoggedEvent → Type 0
  IsAnswered c x y = (u : ℕ) (shape : Shape) (a : Access) → slice_get shapes u ≡ Some shape → x.event ≡ Submit u c a → y.event ≡ Judge u c x.place → y.reply ≡ replies.Verdict (decided (own_state h u shape n) a)

  same_access : (u c : ℕ) (a b : Access) (i : ℕ) → taken_at h i ≡ Some (Submit u c a) → taken_at h i ≡ Some (Submit u c b) → b ≡ a
  same_access u c a b i p q = let same : Some (Submit u c a) ≡ Some (Submit u c b) = sym p ∙ q in cc

  answered : (c i k : ℕ) (x y : LoggedEvent) → 1 ≤ c → AreNeighbours (is_by c) (logged_in shapes words) i k x y → IsAnswered c x y
  answered c i k x y some near u shape a q xe ye =
      let all = g.legal.events in
      let first = is_entry shapes words all i x near.1 in
      let second = is_entry shapes words all k y near.2 in
      let submitted : event_at h i ≡ Some (Submit u c a) = first.event ∙ ap (λ e. Some e) xe in
      let taken_first = as_it_is h i (Submit u c a) refl submitted in
      let judged : event_at h k ≡ Some (Judge u c i) = second.event ∙ ap (λ e. Some e) (ye ∙ ap (Judge u c) first.place) in
      let taken : IsTaken h u c i a = record { event = submission_taken h i u c a taken_first; reply = inl (passed_at u shape c i a q some submitted) } in
      let own : IsOwnJudgement h u c i k = record { event = judged; later = near.0 } in
      let replied = judged_open h u c i k a y.reply taken own
      (λ j l v.
      let entry = has_entry shapes words all j (Judge u c i) (replies.Verdict v.verdict) v.own.event v.reply in
      let off = near.5 j _ v.own.later l entry in
      absurd (false≢true (sym off ∙ eq-eqb c c refl)))
      second.reply in
      ⊎_elim
      (λ (held : y.reply ≡ replies.Held).
      let s = own_state h u shape k in
      let r = reply_is h k (Judge u c i) u replies.Held s refl (as_it_is h k (Judge u c i) refl judged) (second.reply ∙ ap (λ r. Some r) held) (own_at h u k shape q) in
      absurd (not_held s i c (unstalled_at u shape q k (after_boot k (Judge u c i) judged some)).items r))
      (λ (verdict : (v : Verdict) × (y.reply ≡ replies.Verdict v)).
      let law = law_unwritten shapes boot lanes words g.legal g.quiet u c i k verdict.0 some judged (second.reply ∙ ap (λ r. Some r) verdict.1) in
      let access = same_access u c a law.access i taken_first (submit_of h i u c law.access law.submission.event) in
      let state : Some law.state ≡ Some (own_state h u shape n) = sym law.booted ∙ state_booted u shape q in
      let same : law.state ≡ own_state h u shape n = cc in
      verdict.1 ∙ ap (λ v. replies.Verdict v) (law.verdict_is ∙ ap (λ s. decided s law.access) same ∙ ap (decided (own_state h u shape n)) access))
      replied

  -- so of the events of a lane's caller
  pub pairs_answered : (c : ℕ) → 1 ≤ c → AllPairs (IsAnswered c) (events_by c (logged_in shapes words))
  pairs_answered c some = pairs_filtered (IsAnswered c) (is_by c) (logged_in shapes words) (λ i k x y near. answered c i k x y some near)

  abbrev pub IsPassed : ℕ → LoggedEvent → Type 0
  IsPassed c x = (u : ℕ) (shape : Shape) (a : Access) → slice_get shapes u ≡ Some shape → x.event ≡ Submit u c a → x.reply ≡ replies.Passed

  passed_entry : (c k : ℕ) (x : LoggedEvent) → 1 ≤ c → slice_get (logged_in shapes words) k ≡ Some x → IsPassed c x
  passed_entry c k x some at u shape a q xe =
      let e = is_entry shapes words g.legal.events k x at in
      let is : Some x.reply ≡ Some replies.Passed = sym e.reply ∙ passed_at u shape c k a q some (e.event ∙ ap (λ v. Some v) xe) in
      cc

  pub all_passed : (c : ℕ) → 1 ≤ c → AllByRecursion (IsPassed c) (events_by c (logged_in shapes words))
  all_passed c some = all_filter (IsPassed c) (is_by c) (logged_in shapes words) (from_each (IsPassed c) (logged_in shapes words) (λ k x at. passed_entry c k x some at))
