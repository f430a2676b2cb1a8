-- The logged events of a history as its places, with their requesters.
use Rattle.std.proofs.Common.{◌≡◌, ℕ, zero, suc, ◌+◌, ◌^◌, ◌<◌, ◌≤◌, ◌++◌, leb, true, List, [], ◌∷◌, Option, Some, None, length, take, get_or, flat_map, arith, refl, sym, ap, ◌∙◌, subst, ⊎_elim}
use Rattle.std.specs.Prelude.{slice_get, option_map, option_and_then}
use Rattle.std.specs.List.{AllByRecursion}
use Rattle.std.proofs.lemmas.Bool.{false≢true, cond_both}
use Rattle.std.proofs.lemmas.Option.{slice_get-get_or}
use Rattle.std.proofs.lemmas.List.{take_more, take_all, flat_map_more}
use Rattle.event_words.specs.declared.shape.Shape.{Shape}
use Rattle.event_words.specs.declared.access.Access.{Access}
use Rattle.event_words.specs.declared.event.Event.{Event}
use Rattle.event_words.specs.declared.event.Event.TheVariants.{RegWrite, RegRead, Submit, Judge, Aim, Wide}
use Rattle.event_words.specs.declared.reply.Reply.{Reply}
use Rattle.event_words.specs.declared.reply.Reply.TheVariants as replies
use Rattle.event_words.specs.declared.reply.Denial.{Denial}
use Rattle.event_words.specs.declared.record.LoggedEvent.{LoggedEvent}
use Rattle.event_words.specs.Events.{unit_of}
use Rattle.event_words.specs.Valid.{IsValidEvent}
use Rattle.event_words.specs.Runs.{IsEventWord, logged_first, logged_from}
use Rattle.event_words.proofs.EventWords.{word_event}
use Rattle.unit_core.specs.Submissions.{SubmittedAccess, submitted}
use Rattle.unit_core.specs.Units.{UnitState, unit_step, judge_step, taken_as, submission_of, wide_access, taken_step, event_step}
use Rattle.unit_core.specs.Histories.{History, history_of, with_event, events_of_words, logged_in, units_at, aims_at, event_at, reply_at, state_at}
use Rattle.unit_core.specs.Submitted.{taken_at, submission_at}
use Rattle.unit_core.proofs.Runs.{reply_is, reply_none, some_same}
use Rattle.unit_core.proofs.Items.{judge_cases}
use Rattle.history_laws.specs.Verdicts.{LawVerdicts}
use Rattle.history_laws.proofs.WordHistories.{is_entry, has_entry, length_logged}
use Rattle.fault_windows.specs.declared.Shown.{Shown}
use Rattle.fault_windows.specs.LateViolations.{requester_in, requester_of, is_kept_violation}
use Rattle.fault_windows.specs.Monitors.{MonitorOf, HasSeen, requester_at, IsPlace, shown_by}
use Rattle.fault_windows.proofs.Idle.{by_end, taken_is}
use Rattle.history_reports.specs.WindowLines.{line_of, reading_line}
use Rattle.history_reports.specs.Requesters.{submitter, submitter_at, requester_by, HasValidEvent}

-- ---- events are valid, and requesters are small

pub all_valid : (words : List ℕ) → AllByRecursion IsEventWord words → AllByRecursion IsValidEvent (events_of_words words)
all_valid [] all = tt
all_valid (w ∷ ws) all =
    let e = word_event w all.0 in
    subst (λ o. AllByRecursion IsValidEvent (with_event o (events_of_words ws))) (sym e.back) (e.valid, all_valid ws all.1)

-- so are those that are logged
pub all_logged : {S : Type 0} (after : S → ℕ → ℕ → S) (reply : S → ℕ → ℕ → Reply) (j : ℕ) (s : S) (words : List ℕ) → AllByRecursion IsEventWord words → AllByRecursion HasValidEvent (logged_from after reply j s words)
all_logged after reply j s [] all = tt
all_logged after reply j s (w ∷ ws) all =
    let e = word_event w all.0 in
    subst (λ o. AllByRecursion HasValidEvent (logged_first j (reply s j w) o (logged_from after reply (suc j) (after s j w) ws))) (sym e.back)
    (e.valid, all_logged after reply (suc j) (after s j w) ws all.1)

submitter_small : (e : Event) → IsValidEvent e → submitter e ≤ 63
submitter_small (RegWrite unit caller index value) v = omega arith
submitter_small (RegRead unit caller index) v = omega arith
submitter_small (Submit unit caller access) v = v.1.rrid
submitter_small (Judge unit caller place) v = omega arith
submitter_small (Aim caller addr) v = omega arith
submitter_small (Wide unit caller rrid kind len) v = v.1

at_index : (events : List LoggedEvent) → AllByRecursion HasValidEvent events → (k : ℕ) (x : LoggedEvent) → slice_get events k ≡ Some x → IsValidEvent x.event
at_index [] all k x q = absurd (let n : None ≡ Some x = q in cc)
at_index (y ∷ ys) all zero x q = let same : y ≡ x = cc in subst HasValidEvent same all.0
at_index (y ∷ ys) all (suc k) x q = at_index ys all.1 k x q

looked_small : (events : List LoggedEvent) → AllByRecursion HasValidEvent events → (o : Option LoggedEvent) (k : ℕ) → slice_get events k ≡ o → submitter_at o ≤ 63
looked_small events all None k q = omega arith
looked_small events all (Some x) k q = submitter_small x.event (at_index events all k x q)

requester_small : (events : List LoggedEvent) → AllByRecursion HasValidEvent events → (e : Event) → IsValidEvent e → requester_by events e ≤ 63
requester_small events all (RegWrite unit caller index value) v = omega arith
requester_small events all (RegRead unit caller index) v = omega arith
requester_small events all (Submit unit caller access) v = v.1.rrid
requester_small events all (Judge unit caller place) v = looked_small events all (slice_get events place) place refl
requester_small events all (Aim caller addr) v = omega arith
requester_small events all (Wide unit caller rrid kind len) v = v.1

-- as the loop has them
pub valid_item : (events : List LoggedEvent) (k : ℕ) (d : LoggedEvent) → AllByRecursion HasValidEvent events → k < length events → IsValidEvent (get_or events k d).event
valid_item events k d all l = at_index events all k (get_or events k d) (slice_get-get_or events k d l)

pub small_item : (events : List LoggedEvent) (k rrid : ℕ) (d : LoggedEvent) → AllByRecursion HasValidEvent events → k < length events → rrid ≡ requester_by events (get_or events k d).event → rrid ≤ 63
small_item events k rrid d all l r =
    subst (λ n. n ≤ 63) (sym r) (requester_small events all (get_or events k d).event (valid_item events k d all l))

-- ---- whose access is submitted at a place

abbrev Submits : List ℕ → Option Event → SubmittedAccess → Type 0
Submits aims o s = option_and_then submitted (option_and_then (taken_as aims) o) ≡ Some s

some_access : (a b : SubmittedAccess) → Some a ≡ Some b → a.access.rrid ≡ b.access.rrid
some_access a b e = let q : a ≡ b = cc in ap (λ (s : SubmittedAccess). s.access.rrid) q

submitter_is : (aims : List ℕ) (o : Option Event) (s : SubmittedAccess) → Submits aims o s → (e : Event) × (o ≡ Some e) × (submitter e ≡ s.access.rrid)
submitter_is aims None s q = absurd (let n : None ≡ Some s = q in cc)
submitter_is aims (Some (RegWrite v c i n)) s q = absurd (let n : None ≡ Some s = q in cc)
submitter_is aims (Some (RegRead v c i)) s q = absurd (let n : None ≡ Some s = q in cc)
submitter_is aims (Some (Submit v c a)) s q = (_, refl, some_access (record { unit = v; caller = c; access = a }) s q)
submitter_is aims (Some (Judge v c p)) s q = absurd (let n : None ≡ Some s = q in cc)
submitter_is aims (Some (Aim c addr)) s q = absurd (let n : None ≡ Some s = q in cc)
submitter_is aims (Some (Wide v c rrid kind len)) s q = (
  _,
  refl,
  by_end (λ o. option_and_then submitted o ≡ Some s → rrid ≡ s.access.rrid) v c (wide_access aims c rrid kind len)
      (λ e. some_access (record { unit = v; caller = c; access = wide_access aims c rrid kind len }) s e) (λ e. absurd (let n : None ≡ Some s = e in cc)) q,
)

-- ---- a kept violation has the requester that is looked up

reply_by : (h : History) (k : ℕ) (e : Event) (r : Reply) → event_at h k ≡ Some e → reply_at h k ≡ Some r → (event_step k (aims_at h k) (units_at h k) e).1 ≡ r
reply_by h k e r p q =
    some_same _ r (sym (ap (option_map (λ e. (event_step k (aims_at h k) (units_at h k) e).1)) p) ∙ q)

-- what holds of the reply of each unit and of NoSuch holds of the reply
reply_from : (P : Reply → Type 0) (h : History) (k : ℕ) (e : Event) (u : ℕ) (r : Reply) → unit_of e ≡ Some u → taken_at h k ≡ Some e → reply_at h k ≡ Some r → P replies.NoSuch → ((x : UnitState) → P (unit_step k x e).1) → P r
reply_from P h k e u r w p q none each = by_state (state_at h k u) refl
  where
    by_state : (o : Option UnitState) → state_at h k u ≡ o → P r
    by_state None s = subst P (some_same replies.NoSuch r (sym (reply_none h k e u w p s) ∙ q)) none
    by_state (Some x) s = subst P (reply_is h k e u r x w p q s) (each x)

not_stalled : (x : UnitState) (place caller : ℕ) (d : Denial) → (judge_step x place caller).1 ≡ replies.Stalled d → ⊥
not_stalled x place caller d =
    judge_cases (λ r. r.1 ≡ replies.Stalled d → ⊥) x place caller
    (λ e q. let n : replies.NoSuch ≡ replies.Stalled d = q in cc)
    (λ item e f q. let n : replies.Held ≡ replies.Stalled d = q in cc)
    (λ item e f v q. let n : replies.Verdict v ≡ replies.Stalled d = q in cc)
    (λ item e f d' v q. let n : replies.Verdict v ≡ replies.Stalled d = q in cc)

abbrev IsUnkept : Reply → Type 0
IsUnkept r = is_kept_violation r ≡ true → ⊥

module _ (law : LawVerdicts) (shapes : List Shape) (words : List ℕ) (all : AllByRecursion IsEventWord words) where
  -- the event of a place is logged, with its requester
  logged_submitter : (place : ℕ) (s : SubmittedAccess) (r : Reply) → submission_at (history_of shapes words) place ≡ Some s → reply_at (history_of shapes words) place ≡ Some r
      → submitter_at (slice_get (logged_in shapes words) place) ≡ s.access.rrid
  logged_submitter place s r at q =
      let h = history_of shapes words in
      let e = submitter_is (aims_at h place) (event_at h place) s at in
      ap submitter_at (has_entry shapes words all place e.0 r e.1 q) ∙ e.2

  judged_by : (k unit caller place : ℕ) (r : Reply) → event_at (history_of shapes words) k ≡ Some (Judge unit caller place) → reply_at (history_of shapes words) k ≡ Some r → is_kept_violation r ≡ true
      → requester_in (submission_at (history_of shapes words) place) ≡ Some (submitter_at (slice_get (logged_in shapes words) place))
  judged_by k unit caller place (replies.Stalled d) p q t =
      let h = history_of shapes words in
      absurd (reply_from (λ r. r ≡ replies.Stalled d → ⊥) h k (Judge unit caller place) unit (replies.Stalled d) refl (taken_is h k (Judge unit caller place) p) q
      (λ e. let n : replies.NoSuch ≡ replies.Stalled d = e in cc) (λ x. not_stalled x place caller d) refl)
  judged_by k unit caller place (replies.Verdict v) p q t =
      let d = law (history_of shapes words) unit caller place k v p q in
      let at = d.submission.event in
      let s : SubmittedAccess = record { unit = unit; caller = caller; access = d.access } in
      let own : submitter_at (slice_get (logged_in shapes words) place) ≡ d.access.rrid = ⊎_elim
      (λ (s : reply_at (history_of shapes words) place ≡ Some replies.Passed). logged_submitter place _ replies.Passed at s)
      (λ (s : reply_at (history_of shapes words) place ≡ Some replies.Queued). logged_submitter place _ replies.Queued at s)
      d.submission.reply in
      ap requester_in at ∙ ap (λ n. Some n) (sym own)
  judged_by k unit caller place (replies.Value n) p q t = absurd (false≢true t)
  judged_by k unit caller place replies.Passed p q t = absurd (false≢true t)
  judged_by k unit caller place replies.Queued p q t = absurd (false≢true t)
  judged_by k unit caller place replies.Busy p q t = absurd (false≢true t)
  judged_by k unit caller place replies.Held p q t = absurd (false≢true t)
  judged_by k unit caller place replies.NoSuch p q t = absurd (false≢true t)
  judged_by k unit caller place replies.Aimed p q t = absurd (false≢true t)

  requester_is : (k : ℕ) (e : Event) (r : Reply) → event_at (history_of shapes words) k ≡ Some e → reply_at (history_of shapes words) k ≡ Some r
      → is_kept_violation r ≡ true → requester_at (history_of shapes words) k ≡ Some (requester_by (logged_in shapes words) e)
  requester_is k (RegWrite unit caller index value) r p q t =
      let h = history_of shapes words in
      absurd (reply_from IsUnkept h k (RegWrite unit caller index value) unit r refl (taken_is h k (RegWrite unit caller index value) p) q false≢true (λ x. false≢true) t)
  requester_is k (RegRead unit caller index) r p q t =
      let h = history_of shapes words in
      absurd (reply_from IsUnkept h k (RegRead unit caller index) unit r refl (taken_is h k (RegRead unit caller index) p) q false≢true (λ x. false≢true) t)
  requester_is k (Submit unit caller access) r p q t =
      let h = history_of shapes words in
      ap (option_and_then (requester_of h)) (taken_is h k (Submit unit caller access) p)
  requester_is k (Judge unit caller place) r p q t =
      let h = history_of shapes words in
      ap (option_and_then (requester_of h)) (taken_is h k (Judge unit caller place) p) ∙ judged_by k unit caller place r p q t
  requester_is k (Aim caller addr) r p q t =
      let h = history_of shapes words in
      absurd (subst IsUnkept (reply_by h k (Aim caller addr) r p q) false≢true t)
  requester_is k (Wide unit caller rrid kind len) r p q t =
      let h = history_of shapes words in
      let e : Event = Wide unit caller rrid kind len in
      ap (option_and_then (requester_of h)) (taken_is h k e p)
      ∙ by_end (λ o. (taken_step k (units_at h k) o).1 ≡ r → option_and_then (requester_of h) o ≡ Some rrid) unit caller (wide_access (aims_at h k) caller rrid kind len)
      (λ n. refl) (λ n. absurd (subst IsUnkept n false≢true t)) (reply_by h k e r p q)

  entry_place : (k : ℕ) (x : LoggedEvent) → slice_get (logged_in shapes words) k ≡ Some x → IsPlace (history_of shapes words) k x.event (requester_by (logged_in shapes words) x.event) x.reply
  entry_place k x q =
      let n = is_entry shapes words all k x q in
      record { event_is = n.event; reply_is = n.reply; requester = requester_is k x.event x.reply n.event n.reply }

  -- ---- one event more

  line_is : (k : ℕ) (x : LoggedEvent) → slice_get (logged_in shapes words) k ≡ Some x
      → reading_line (history_of shapes words) x ≡ line_of x.place x.event (shown_by (history_of shapes words) k x.event)
  line_is k x q =
      ap (λ i. line_of x.place x.event (shown_by (history_of shapes words) i x.event)) (is_entry shapes words all k x q).place

-- the lines of the events so far are written, and the monitor has seen them
abbrev pub IsWritten : List ℕ → List ℕ → List Shape → List ℕ → List LoggedEvent → ℕ → MonitorOf → Type 0
IsWritten out start shapes words events k m =
    (out ≡ start ++ flat_map (reading_line (history_of shapes words)) (take k events)) × HasSeen (history_of shapes words) k m

pub one_more : LawVerdicts → (shapes : List Shape) (words : List ℕ) → AllByRecursion IsEventWord words → (events : List LoggedEvent) (k rrid : ℕ) (x : LoggedEvent) (d : LoggedEvent) (m n : MonitorOf) (shown : Option Shown) (start before after : List ℕ)
    → events ≡ logged_in shapes words → k < length events → x ≡ get_or events k d → rrid ≡ requester_by events x.event
    → ((h : History) (k : ℕ) → HasSeen h k m → IsPlace h k x.event rrid x.reply → HasSeen h (suc k) n)
    → ((h : History) (k : ℕ) → HasSeen h k m → IsPlace h k x.event rrid x.reply → shown ≡ shown_by h k x.event)
    → IsWritten before start shapes words events k m → after ≡ before ++ line_of x.place x.event shown → IsWritten after start shapes words events (k + 1) n
one_more law shapes words all events k rrid x d m n shown start before after e l i r seen shows so_far written =
    let h = history_of shapes words in
    let f = reading_line h in
    let q : slice_get (logged_in shapes words) k ≡ Some x = subst (λ es. slice_get es k ≡ Some x) e (slice_get-get_or events k d l ∙ ap (λ y. Some y) (sym i)) in
    let at : IsPlace h k x.event rrid x.reply = subst (λ s. IsPlace h k x.event s x.reply) (sym (r ∙ ap (λ es. requester_by es x.event) e)) (entry_place law shapes words all k x q) in
    let line : line_of x.place x.event shown ≡ f x = ap (line_of x.place x.event) (shows h k so_far.1 at) ∙ sym (line_is law shapes words all k x q) in
    let more : take (k + 1) events ≡ take k events ++ x ∷ [] = take_more events k d l ∙ ap (λ y. take k events ++ y ∷ []) (sym i) in
    let one : suc k ≡ k + 1 = omega arith in (
      written ∙ (ap (λ b. b ++ line_of x.place x.event shown) so_far.0
          ∙ (ap (λ b. (start ++ flat_map f (take k events)) ++ b) line ∙ (flat_map_more f start (take k events) x ∙ ap (λ es. start ++ flat_map f es) (sym more)))),
      subst (λ j. HasSeen h j n) one (seen h k so_far.1 at),
    )

pub all_written : (shapes : List Shape) (words : List ℕ) → AllByRecursion IsEventWord words → (events : List LoggedEvent) (k : ℕ) (m : MonitorOf) (out start : List ℕ) → events ≡ logged_in shapes words → k ≤ length events → length events ≤ k
    → IsWritten out start shapes words events k m → (out ≡ start ++ flat_map (reading_line (history_of shapes words)) events) × HasSeen (history_of shapes words) (length words) m
all_written shapes words all events k m out start e a b so_far =
    let n : length events ≡ length words = ap length e ∙ length_logged shapes words all in
    let same : k ≡ length words = omega arith in (
      so_far.0 ∙ ap (λ es. start ++ flat_map (reading_line (history_of shapes words)) es) (take_all k events b),
      subst (λ j. HasSeen (history_of shapes words) j m) same so_far.1,
    )
