-- Submissions that were passed or queued: what stands at every later place.
use Rattle.std.proofs.Common.{◌≡◌, ℕ, suc, zero, ◌+◌, ◌<◌, ◌≤◌, true, false, List, [], Option, Some, None, refl, sym, ap, ◌∙◌, subst, arith, ⊎_elim, ◌⊎◌, inl, inr}
use Rattle.std.specs.Prelude.{slice_get, IsSomeAnd, option_map}
use Rattle.std.specs.List.{AllByRecursion}
use Rattle.std.proofs.lemmas.Bool.{cases_eq, cases_lt}
use Rattle.event_words.specs.declared.shape.Shape.{Shape}
use Rattle.event_words.specs.declared.access.Access.{Access}
use Rattle.event_words.specs.declared.event.Event.{Event}
use Rattle.event_words.specs.declared.event.Event.TheVariants.{Submit, Judge}
use Rattle.event_words.specs.declared.reply.Reply.{Reply}
use Rattle.event_words.specs.declared.reply.Reply.TheVariants as replies
use Rattle.event_words.specs.declared.reply.Verdict.{Verdict}
use Rattle.unit_core.specs.declared.Submission.{Submission}
use Rattle.unit_core.specs.Units.{UnitState, unit_step, submit_step, judge_step}
use Rattle.unit_core.specs.Histories.{History, event_at, reply_at}
use Rattle.unit_core.specs.Submitted.{taken_at}
use Rattle.history_laws.specs.Tickets.{StandsOnce, StandsAt, IsTaken, IsOwnJudgement, IsClosing, LawTickets}
use Rattle.unit_core.proofs.Runs.{own_next, own_state, own_induction, own, own_at, as_it_is, event_taken, reply_of, reply_none, submit_of}
use Rattle.event_words.proofs.ListItems.{all_of}
use Rattle.unit_core.proofs.Items.{submit_cases, items_step, released_cases}
use Rattle.history_laws.proofs.TicketSteps.{at, at_none, at_own, Stays, Closes, ticket_step, gone_step, IsBelow}

-- ---- the submission itself

later_places : (k : ℕ) (xs : List Submission) → AllByRecursion (IsBelow k) xs → AllByRecursion (IsBelow (suc k)) xs
later_places k xs h = all_of (IsBelow k) (IsBelow (suc k)) xs (λ item l. omega arith) h

pub own_places : (h : History) (u : ℕ) (shape : Shape) (k : ℕ) → AllByRecursion (IsBelow k) (own_state h u shape k).submissions
own_places h u shape k =
    own_induction (λ k x. AllByRecursion (IsBelow k) x.submissions) h u shape tt (λ k x b. later_places k x.submissions b)
    (λ k x e q t b. items_step (IsBelow k) (IsBelow (suc k)) k x e (λ item l. omega arith) (λ item l. released_cases (IsBelow (suc k)) _ item (λ e. omega arith) (λ e. omega arith)) (λ unit caller a queued s stalled taken. omega arith) b) k

taken_step : (p c : ℕ) (a : Access) (x : UnitState) → at p x.submissions ≡ []
    → ((submit_step p x c a).1 ≡ replies.Passed) ⊎ ((submit_step p x c a).1 ≡ replies.Queued) → StandsOnce p c a (submit_step p x c a).0
taken_step p c a x h =
    submit_cases (λ r. (r.1 ≡ replies.Passed) ⊎ (r.1 ≡ replies.Queued) → StandsOnce p c a r.0) p x c a
    (λ e q. (false, at_own p x.submissions _ refl h))
    (λ e f q. (true, at_own p x.submissions _ refl h))
    (λ d q. absurd (⊎_elim (λ (e : replies.Stalled d ≡ replies.Passed). let n : ⊥ = cc in n) (λ (e : replies.Stalled d ≡ replies.Queued). let n : ⊥ = cc in n) q))
    (λ q. absurd (⊎_elim (λ (e : replies.Busy ≡ replies.Passed). let n : ⊥ = cc in n) (λ (e : replies.Busy ≡ replies.Queued). let n : ⊥ = cc in n) q))

-- ---- every later place

-- An own judgement before place k replied a verdict.
pub record IsClosedBefore (h : History) (u caller p k : ℕ) : Type 0 where
  pub place : ℕ
  pub verdict : Verdict
  pub own : IsOwnJudgement h u caller p place
  pub reply : reply_at h place ≡ Some (replies.Verdict verdict)
  pub before : place < k

-- before place k: open, with no closing judgement, or gone, with one
abbrev Either : History → ℕ → ℕ → ℕ → ℕ → Access → UnitState → Type 0
Either h u c p k a x =
    (StandsOnce p c a x × (IsClosedBefore h u c p k → ⊥)) ⊎ ((at p x.submissions ≡ []) × IsClosedBefore h u c p k)

-- An event that isn't a verdict on it closes nothing.
not_closed : (h : History) (u c p k : ℕ) → (IsClosedBefore h u c p k → ⊥)
    → ((v : Verdict) → event_at h k ≡ Some (Judge u c p) → reply_at h k ≡ Some (replies.Verdict v) → ⊥) → IsClosedBefore h u c p (suc k) → ⊥
not_closed h u c p k n m closed = ⊎_elim
    (λ (e : closed.place ≡ k). m closed.verdict (subst (λ j. event_at h j ≡ Some (Judge u c p)) e closed.own.event) (subst (λ j. reply_at h j ≡ Some (replies.Verdict closed.verdict)) e closed.reply))
    (λ (ne : closed.place ≡ k → ⊥). n (record { place = closed.place; verdict = closed.verdict; own = closed.own; reply = closed.reply; before = omega (arith, closed.before, ne) }))
    (cases_eq closed.place k)

closed_on : (h : History) (u c p k : ℕ) → IsClosedBefore h u c p k → IsClosedBefore h u c p (suc k)
closed_on h u c p k closed = record { place = closed.place; verdict = closed.verdict; own = closed.own; reply = closed.reply; before = omega (arith, closed.before) }

later_closed : (h : History) (u c p k : ℕ) → IsClosedBefore h u c p k → IsClosedBefore h u c p (k + 1)
later_closed h u c p k closed = record { place = closed.place; verdict = closed.verdict; own = closed.own; reply = closed.reply; before = omega (arith, closed.before) }

taken_once : (h : History) (k : ℕ) (e f : Event) → taken_at h k ≡ Some e → taken_at h k ≡ Some f → e ≡ f
taken_once h k e f p q = let n : Some e ≡ Some f = sym p ∙ q in cc

pub reply_once : (h : History) (k : ℕ) (e f : Reply) → reply_at h k ≡ Some e → reply_at h k ≡ Some f → e ≡ f
reply_once h k e f p q = let n : Some e ≡ Some f = sym p ∙ q in cc

either_first : (h : History) (u c p : ℕ) (a : Access) (shape : Shape) → slice_get h.shapes u ≡ Some shape → IsTaken h u c p a
    → Either h u c p (suc p) a (own_state h u shape (suc p))
either_first h u c p a shape q taken =
    let x = own_state h u shape p in
    let none = at_none p x.submissions (own_places h u shape p) in
    let is = reply_of h p (Submit u c a) u x refl (submit_of h p u c a taken.event) (own_at h u p shape q) in
    let opened = taken_step p c a x none (⊎_elim (λ (r : reply_at h p ≡ Some replies.Passed). inl (reply_once h p _ _ is r)) (λ (r : reply_at h p ≡ Some replies.Queued). inr (reply_once h p _ _ is r)) taken.reply) in
    inl (
      own_next (StandsOnce p c a) p u x (taken_at h p)
          (λ n. absurd (n (Submit u c a) (submit_of h p u c a taken.event) refl))
          (λ e o t. subst (λ f. StandsOnce p c a (unit_step p x f).0) (taken_once h p (Submit u c a) e (submit_of h p u c a taken.event) o) opened),
      λ closed. absurd (let l = closed.before in let m = closed.own.later in omega arith),
    )

either_step : (h : History) (u c p k : ℕ) (a : Access) (shape : Shape) → slice_get h.shapes u ≡ Some shape → p < k
    → Either h u c p k a (own_state h u shape k) → Either h u c p (suc k) a (own_state h u shape (suc k))
either_step h u c p k a shape q l now =
    let x = own_state h u shape k in
    own_next (Either h u c p (suc k) a) k u x (taken_at h k)
    (λ n. ⊎_elim
    (λ (o : StandsOnce p c a x × (IsClosedBefore h u c p k → ⊥)). inl (o.0, not_closed h u c p k o.1 (λ v e r. n (Judge u c p) (as_it_is h k (Judge u c p) refl e) refl)))
    (λ (g : (at p x.submissions ≡ []) × IsClosedBefore h u c p k). inr (g.0, closed_on h u c p k g.1)) now)
    (λ e o t.
    let is = reply_of h k e u x t o (own_at h u k shape q) in
    ⊎_elim
    (λ (s : StandsOnce p c a x × (IsClosedBefore h u c p k → ⊥)). ⊎_elim
    (λ (stays : Stays p c u a e (unit_step k x e)). inl (
      stays.stands,
      not_closed h u c p k s.1 (λ v f r.
          let held = stays.held (taken_once h k e (Judge u c p) o (as_it_is h k (Judge u c p) refl f)) in
          let verdict = reply_once h k _ _ is r in
          let n : replies.Held ≡ replies.Verdict v = sym held ∙ verdict in cc),
    ))
    (λ (closes : Closes p c u a e (unit_step k x e)). inr (
      closes.gone,
      record {
        place = k;
        verdict = closes.verdict;
        own = record { event = event_taken h k (Judge u c p) refl (o ∙ ap (λ f. Some f) closes.event); later = l };
        reply = is ∙ ap (λ r. Some r) closes.reply;
        before = omega arith;
      },
    ))
    (ticket_step p c u k a x e l t s.0))
    (λ (g : (at p x.submissions ≡ []) × IsClosedBefore h u c p k). inr ((gone_step p c u k x e l g.0).gone, closed_on h u c p k g.1)) now)

either_at : (h : History) (u c p : ℕ) (a : Access) (shape : Shape) → slice_get h.shapes u ≡ Some shape → IsTaken h u c p a → (k : ℕ)
    → p < k → Either h u c p k a (own_state h u shape k)
either_at h u c p a shape q taken zero l = absurd (omega arith)
either_at h u c p a shape q taken (suc k) l = ⊎_elim
    (λ (e : p ≡ k). subst (λ j. Either h u c p (suc j) a (own_state h u shape (suc j))) e (either_first h u c p a shape q taken))
    (λ (ne : p ≡ k → ⊥). let m : p < k = omega arith in either_step h u c p k a shape q m (either_at h u c p a shape q taken k m))
    (cases_eq p k)

no_pass : replies.NoSuch ≡ replies.Passed → ⊥
no_pass n = cc

no_queue : replies.NoSuch ≡ replies.Queued → ⊥
no_queue n = cc

-- A submission that is taken has a unit.
taken_shape : (h : History) (u c p : ℕ) (a : Access) → IsTaken h u c p a → (shape : Shape) × (slice_get h.shapes u ≡ Some shape)
taken_shape h u c p a taken = there (slice_get h.shapes u) refl
  where
    there : (o : Option Shape) → slice_get h.shapes u ≡ o → (shape : Shape) × (slice_get h.shapes u ≡ Some shape)
    there None q =
        let none = reply_none h p (Submit u c a) u refl (submit_of h p u c a taken.event) (own h u p ∙ ap (option_map (λ shape. own_state h u shape p)) q) in
        absurd (⊎_elim (λ (e : reply_at h p ≡ Some replies.Passed). let n = reply_once h p _ _ none e in no_pass n) (λ (e : reply_at h p ≡ Some replies.Queued). let n = reply_once h p _ _ none e in no_queue n) taken.reply)
    there (Some shape) q = (shape, q)

-- What a taken submission owes and is owed at a later place.
pub record IsTicketAt (h : History) (u caller p k : ℕ) (access : Access) : Type 0 where
  pub stands : (IsClosedBefore h u caller p k → ⊥) → StandsAt h u caller p access k
  pub held : IsOwnJudgement h u caller p k → (IsClosedBefore h u caller p (k + 1) → ⊥) → reply_at h k ≡ Some replies.Held
  pub gone : IsOwnJudgement h u caller p k → IsClosedBefore h u caller p k → reply_at h k ≡ Some replies.NoSuch

pub ticket_at : (h : History) (u caller p k : ℕ) (access : Access) → IsTaken h u caller p access → p < k → IsTicketAt h u caller p k access
ticket_at h u c p k a taken l =
    let there = taken_shape h u c p a taken in
    let shape = there.0 in
    let x = own_state h u shape k in
    let state = own_at h u k shape there.1 in
    let now = either_at h u c p a shape there.1 taken k l in
    record {
      stands = λ n. subst (λ o. IsSomeAnd o (StandsOnce p c a)) (sym state) (⊎_elim
          (λ (s : StandsOnce p c a x × (IsClosedBefore h u c p k → ⊥)). s.0)
          (λ (g : (at p x.submissions ≡ []) × IsClosedBefore h u c p k). absurd {A = StandsOnce p c a x} (n g.1)) now);
      held = λ own n.
          let is = reply_of h k (Judge u c p) u x refl (as_it_is h k (Judge u c p) refl own.event) state in
          ⊎_elim
          (λ (s : StandsOnce p c a x × (IsClosedBefore h u c p k → ⊥)). ⊎_elim
          (λ (stays : Stays p c u a (Judge u c p) (judge_step x p c)). is ∙ ap (λ r. Some r) (stays.held refl))
          (λ (closes : Closes p c u a (Judge u c p) (judge_step x p c)). absurd (n (record { place = k; verdict = closes.verdict; own = own; reply = is ∙ ap (λ r. Some r) closes.reply; before = omega arith })))
          (ticket_step p c u k a x (Judge u c p) l refl s.0))
          (λ (g : (at p x.submissions ≡ []) × IsClosedBefore h u c p k). absurd (n (later_closed h u c p k g.1))) now;
      gone = λ own closed.
          let is = reply_of h k (Judge u c p) u x refl (as_it_is h k (Judge u c p) refl own.event) state in
          ⊎_elim
          (λ (s : StandsOnce p c a x × (IsClosedBefore h u c p k → ⊥)). absurd {A = reply_at h k ≡ Some replies.NoSuch} (s.1 closed))
          (λ (g : (at p x.submissions ≡ []) × IsClosedBefore h u c p k). is ∙ ap (λ r. Some r) ((gone_step p c u k x (Judge u c p) l g.0).none refl)) now;
    }

-- ---- the closing judgement

not_before : (h : History) (u c p n k : ℕ) → IsClosing h u c p n → k ≤ n → IsClosedBefore h u c p k → ⊥
not_before h u c p n k closing l closed =
    let first = closing.first closed.place (record { own = closed.own; verdict = closed.verdict; reply = closed.reply }) in
    absurd {A = ⊥} (omega (arith, closed.before))

-- Where a verdict was given there is a first one.
first_closing : (h : History) (u c p : ℕ) (a : Access) → IsTaken h u c p a → (k : ℕ) → IsClosedBefore h u c p k
    → (n : ℕ) × IsClosing h u c p n
first_closing h u c p a taken zero closed = absurd (omega (arith, closed.before))
first_closing h u c p a taken (suc k) closed = ⊎_elim
    (λ (earlier : p < k). ⊎_elim
    (λ (s : StandsOnce p c a x × (IsClosedBefore h u c p k → ⊥)). last s.1)
    (λ (g : (at p x.submissions ≡ []) × IsClosedBefore h u c p k). first_closing h u c p a taken k g.1)
    (either_at h u c p a shape there.1 taken k earlier))
    (λ (first : k ≤ p). last (λ early. absurd {A = ⊥} (omega (arith, early.before, early.own.later))))
    (cases_lt p k)
  where
    there : (shape : Shape) × (slice_get h.shapes u ≡ Some shape)
    there = taken_shape h u c p a taken

    shape : Shape
    shape = there.0

    x : UnitState
    x = own_state h u shape k

    last : (IsClosedBefore h u c p k → ⊥) → (n : ℕ) × IsClosing h u c p n
    last none = (
      closed.place,
      record {
        verdict = record { own = closed.own; verdict = closed.verdict; reply = closed.reply };
        first = λ j v. ⊎_elim
            (λ (early : j < k). absurd (none (record { place = j; verdict = v.verdict; own = v.own; reply = v.reply; before = early })))
            (λ (late : k ≤ j). omega (arith, closed.before))
            (cases_lt j k);
      },
    )

pub law_tickets : LawTickets
law_tickets h u c p a taken = record {
  stands_until = λ n k closing l m. (ticket_at h u c p k a taken l).stands (not_before h u c p n k closing m);
  held_before = λ n k closing own l. (ticket_at h u c p k a taken own.later).held own (not_before h u c p n (k + 1) closing (omega arith));
  none_after = λ n k closing own l. (ticket_at h u c p k a taken own.later).gone own (record { place = n; verdict = closing.verdict.verdict; own = closing.verdict.own; reply = closing.verdict.reply; before = l });
  stands_on = λ none k l. (ticket_at h u c p k a taken l).stands (λ closed. let f = first_closing h u c p a taken k closed in none f.0 f.1);
  held_on = λ none k own. (ticket_at h u c p k a taken own.later).held own (λ closed. let f = first_closing h u c p a taken (k + 1) closed in none f.0 f.1);
}
