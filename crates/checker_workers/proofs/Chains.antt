-- An access that a port sends through units: no reply is odd, and no ticket from before ends.
use Rattle.std.proofs.Common.{◌≡◌, ℕ, zero, suc, ◌+◌, ◌-◌, ◌^◌, ◌<◌, ◌≤◌, Bool, true, false, cond, List, [], ◌∷◌, ◌++◌, length, get_or, Option, Some, None, refl, sym, ap, ◌∙◌, subst, arith, append_assoc, append-nil, eqb, ◌⊎◌, inl, inr, ⊎_elim}
use Rattle.std.specs.Prelude.{nat_lt, option_and_then}
use Rattle.std.specs.List.{AllByRecursion, list_any, last_or}
use Rattle.std.proofs.lemmas.Bool.{or_from, and_right, le-leb}
use Rattle.std.proofs.lemmas.List.Folds.{list_any-append}
use Rattle.event_words.specs.declared.access.Access.{Access}
use Rattle.event_words.specs.declared.event.Event.{Event}
use Rattle.event_words.specs.declared.event.Event.TheVariants as events
use Rattle.event_words.specs.declared.reply.Reply.{Reply}
use Rattle.event_words.specs.declared.reply.Reply.TheVariants as replies
use Rattle.event_words.specs.declared.reply.Verdict.{Verdict}
use Rattle.event_words.specs.declared.reply.Verdict.TheVariants as verdicts
use Rattle.event_words.specs.declared.record.LoggedEvent.{LoggedEvent}
use Rattle.event_words.specs.Events.{same_event, caller_of}
use Rattle.event_words.specs.Records.{is_aimed, is_taken, is_verdict, judgements, next_requester, stage_following, stage_judged, stage_piece, through_stages, events_by, wide_event}
use Rattle.event_words.specs.Runs.{logged_from, logged_first}
use Rattle.event_words.specs.Sections.{IsBelow}
use Rattle.event_words.specs.Valid.{IsValidEvent}
use Rattle.event_words.specs.Word.{event_of_word}
use Rattle.event_words.proofs.Cases.{by_test}
use Rattle.event_words.proofs.ListItems.{all_after}
use Rattle.unit_core.specs.Units.{FabricState}
use Rattle.unit_core.specs.Fabrics.{state_after_word, reply_to_word}
use Rattle.shared_log.specs.Words.{AllEventWords}
use Rattle.history_laws.proofs.TicketReplies.{IsJudged}
use Rattle.cascade_path.specs.declared.chain.ChainReply.{ChainReply}
use Rattle.cascade_path.specs.declared.chain.ChainReply.TheVariants.{Allowed, Odd}
use Rattle.cascade_path.specs.Answers.{aim_answer, submission_answer, judgement_answer, answer_to, event_answer, last_stage, chain_reply, is_odd, is_some_of}
use Rattle.cascade_path.specs.Chains.{SendsThrough}
use Rattle.cascade_path.specs.Stages.{IsNarrowSubmission, IsWideSubmission, IsSubmission}
use Rattle.cascade_path.proofs.Causes.{last_behind}
use Rattle.cascade_path.proofs.LastStage.{LastStage, EndsUnaimed, EndsRefused, EndsJudged, borne_by, last_stage_of}
use Rattle.cascade_path.proofs.Submitting.{Go, StageRefused, StageSubmitted, stage_begins, submission_decides}
use Rattle.cascade_path.proofs.Turns.{IsHeldJudgement, AreJudgements, BeginsWithJudgements, begins_with_judgements}
use Rattle.checker_workers.specs.Ports.{PortView, EndWhole, IsAtReset, MakesEvent, is_aim, is_aim_logged, port_events, unit_count}
use Rattle.checker_workers.specs.TicketViews.{TicketView}
use Rattle.checker_workers.specs.Tickets.{IsOpenTicket, is_end, is_submit_reply, last_ticket, submits_on}
use Rattle.checker_workers.specs.Pieces.{PlaysThrough}
use Rattle.checker_workers.proofs.Aims.{wide_answers}
use Rattle.checker_workers.proofs.Among.{Extends, extends, StandsAmong, stands}
use Rattle.checker_workers.proofs.Making.{answers, submit_reply}
use Rattle.checker_workers.proofs.NextRequesters.{allowed_next}
use Rattle.checker_workers.proofs.OpenTickets.{new_ticket, ticket_kept, on_unit}
use Rattle.checker_workers.proofs.Standing.{judgement, open_reply}
use Rattle.checker_workers.proofs.Turns.{ends_other, none_more, other_place}

abbrev Events : Type 0
Events = List LoggedEvent

-- ---- answers that aren't odd

plain_submission : (stage : ℕ) (r : Reply) → is_submit_reply r ≡ true → is_some_of is_odd (submission_answer stage r) ≡ false
plain_submission stage replies.Passed h = refl
plain_submission stage replies.Queued h = refl
plain_submission stage replies.Busy h = refl
plain_submission stage (replies.Stalled d) h = refl
plain_submission stage _ h = absurd (let n : false ≡ true = h in cc)

plain_verdict : (stage place : ℕ) (v : Verdict) → ((next : ℕ) → v ≡ verdicts.Allowed next → next ≤ 63) → is_odd (judgement_answer stage place (replies.Verdict v)) ≡ false
plain_verdict stage place (verdicts.Allowed next) small = ap (λ (t : Bool). is_odd (cond t (Allowed next) (Odd stage (replies.Verdict (verdicts.Allowed next))))) (le-leb next 63 (small next refl))
plain_verdict stage place (verdicts.Denied d) small = refl

plain_judgement : (stage place : ℕ) (r : Reply) → IsJudged r → ((next : ℕ) → r ≡ replies.Verdict (verdicts.Allowed next) → next ≤ 63) → is_odd (judgement_answer stage place r) ≡ false
plain_judgement stage place r judged small = ⊎_elim
    (λ (e : r ≡ replies.Held). ap (λ (q : Reply). is_odd (judgement_answer stage place q)) e)
    (λ (e : (v : Verdict) × (r ≡ replies.Verdict v)). ap (λ (q : Reply). is_odd (judgement_answer stage place q)) e.1
    ∙ plain_verdict stage place e.0 (λ next is. small next (e.1 ∙ ap (λ (v : Verdict). replies.Verdict v) is)))
    judged

-- The answer is that of the last event.
last_decides : (made first : Events) (last : LoggedEvent) (answer : ChainReply) → made ≡ first ++ last ∷ [] → chain_reply made ≡ Some answer → is_odd answer ≡ is_some_of is_odd (event_answer (last_stage made) last)
last_decides made first last answer is decided =
    let there : last_or None made ≡ Some last = ap (last_or None) is ∙ last_behind None first last [] in
    ap (is_some_of is_odd) (sym decided ∙ ap (option_and_then (event_answer (last_stage made))) there)

-- An event that decides, and not oddly, is no Aim.
aim_decides : (stage : ℕ) (r : Reply) (answer : ChainReply) → aim_answer stage r ≡ Some answer → is_odd answer ≡ true
aim_decides stage replies.Aimed answer h = absurd (let n : None ≡ Some answer = h in cc)
aim_decides stage replies.Passed answer h = let n : Some (Odd stage replies.Passed) ≡ Some answer = h in ap (is_some_of is_odd) (sym n)
aim_decides stage replies.Queued answer h = let n : Some (Odd stage replies.Queued) ≡ Some answer = h in ap (is_some_of is_odd) (sym n)
aim_decides stage replies.Busy answer h = let n : Some (Odd stage replies.Busy) ≡ Some answer = h in ap (is_some_of is_odd) (sym n)
aim_decides stage (replies.Stalled d) answer h = let n : Some (Odd stage (replies.Stalled d)) ≡ Some answer = h in ap (is_some_of is_odd) (sym n)
aim_decides stage (replies.Value v) answer h = let n : Some (Odd stage (replies.Value v)) ≡ Some answer = h in ap (is_some_of is_odd) (sym n)
aim_decides stage (replies.Verdict v) answer h = let n : Some (Odd stage (replies.Verdict v)) ≡ Some answer = h in ap (is_some_of is_odd) (sym n)
aim_decides stage replies.Held answer h = let n : Some (Odd stage replies.Held) ≡ Some answer = h in ap (is_some_of is_odd) (sym n)
aim_decides stage replies.NoSuch answer h = let n : Some (Odd stage replies.NoSuch) ≡ Some answer = h in ap (is_some_of is_odd) (sym n)

no_aim_decides : (stage : ℕ) (e : Event) (r : Reply) (answer : ChainReply) → answer_to stage e r ≡ Some answer → is_odd answer ≡ false → is_aim e ≡ false
no_aim_decides stage (events.Aim c a) r answer h plain = absurd (let n : true ≡ false = sym (aim_decides stage r answer h) ∙ plain in cc)
no_aim_decides stage _ r answer h plain = refl

chain_whole : (made : Events) (answer : ChainReply) → chain_reply made ≡ Some answer → is_odd answer ≡ false → EndWhole made
chain_whole made answer decided plain = by (last_or None made) decided
  where
    by : (o : Option LoggedEvent) → option_and_then (event_answer (last_stage made)) o ≡ Some answer → is_aim_logged o ≡ false
    by None h = refl
    by (Some x) h = no_aim_decides (last_stage made) x.event x.reply answer h plain

-- ---- the last stage

unit_there : (n : ℕ) (units : List ℕ) (i : ℕ) → AllByRecursion (IsBelow n) units → i < length units → get_or units i 0 < n
unit_there n [] i all h = absurd (omega arith)
unit_there n (u ∷ us) zero all h = all.0
unit_there n (u ∷ us) (suc i) all h = unit_there n us i all.1 (omega arith)

-- The last event of a submission, among the port's own: its unit answered it.
record IsAnswered (p q : PortView) (unit : ℕ) (earlier : Events) (x : LoggedEvent) (later : Events) : Type 0 where
  stands_so : StandsAmong p q earlier x later
  submits : submits_on unit p.number x.event ≡ true
  reply : is_submit_reply x.reply ≡ true

reset_at : (p at : PortView) → at.first ≡ p.first → IsAtReset p.first → IsAtReset at.first
reset_at p at first reset = subst IsAtReset (sym first) reset

below_at : (p at : PortView) (unit : ℕ) → at.first ≡ p.first → unit < unit_count p → unit < unit_count at
below_at p at unit first there = subst (λ (s : FabricState). unit < length s.units) (sym first) there

narrow_answered : (p q : PortView) (earlier before later : Events) (x : LoggedEvent) (unit : ℕ) (a : Access) → IsNarrowSubmission unit p.number a before x → StandsAmong p q earlier x later → unit < unit_count p → IsAnswered p q unit earlier x later
narrow_answered p q earlier before later x unit a n s there =
    let e : Event = events.Submit unit p.number a in
    let m : MakesEvent s.at e x.reply s.next = subst (λ (v : Event). MakesEvent s.at v x.reply s.next) n.event s.event in
    let an = answers s.at s.next e e unit x.reply m refl refl (below_at p s.at unit s.first there) in record {
      stands_so = s;
      submits = ap (submits_on unit p.number) n.event ∙ on_unit unit p.number;
      reply = ap is_submit_reply an.reply ∙ submit_reply (length (s.at.log ++ m.between)) an.unit p.number a;
    }

wide_answered : (p q : PortView) (earlier before later : Events) (x : LoggedEvent) (unit : ℕ) (a : Access) → IsWideSubmission unit p.number a before x → StandsAmong p q (earlier ++ before) x later → unit < unit_count p → IsAtReset p.first → a.addr + a.len ≤ 2 ^ 52
    → IsAnswered p q unit (earlier ++ before) x later
wide_answered p q earlier before later x unit a w s there reset fits =
    let e : Event = wide_event unit p.number a in
    let m : MakesEvent s.at e x.reply s.next = subst (λ (v : Event). MakesEvent s.at v x.reply s.next) w.event s.event in
    let valid : IsValidEvent e = subst IsValidEvent w.event s.valid in
    let small : s.at.number < 32 = let c = valid.0.caller_below in let n = s.number in omega arith in
    let own : port_events s.at ≡ (port_events p ++ earlier) ++ w.aim ∷ [] =
    s.own ∙ ap (λ (l : Events). port_events p ++ (earlier ++ l)) w.after_aim ∙ sym (append_assoc (port_events p) earlier (w.aim ∷ [])) in
    let an = wide_answers s.at s.next unit p.number a x.reply m (port_events p ++ earlier) w.aim p.number (reset_at p s.at s.first reset) small (sym s.number) fits own w.aims (below_at p s.at unit s.first there) in record {
      stands_so = s;
      submits = ap (submits_on unit p.number) w.event ∙ on_unit unit p.number;
      reply = ap is_submit_reply an.reply ∙ submit_reply (length (s.at.log ++ m.between)) an.unit p.number a;
    }

module _ (p q : PortView) (all : AllEventWords q.log) where
  answered : (earlier before later : Events) (x : LoggedEvent) (unit : ℕ) (a : Access) → IsSubmission unit p.number a before x → Extends p (earlier ++ (before ++ x ∷ later)) q → unit < unit_count p → IsAtReset p.first → a.addr + a.len ≤ 2 ^ 52
      → IsAnswered p q unit (earlier ++ before) x later
  answered earlier before later x unit a submission more there reset fits =
      let s : StandsAmong p q (earlier ++ before) x later = stands p q (earlier ++ before) x later (subst (λ (l : Events). Extends p l q) (sym (append_assoc earlier before (x ∷ later))) more) all in ⊎_elim
      (λ (n : IsNarrowSubmission unit p.number a before x). narrow_answered p q (earlier ++ before) before later x unit a n s there)
      (λ (w : IsWideSubmission unit p.number a before x). wide_answered p q earlier before later x unit a w s there reset fits)
      submission

  -- No aim of a port is refused.
  never_unaimed : (made earlier : Events) (a : Access) → EndsUnaimed p.number a made earlier → Extends p made q → ⊥
  never_unaimed made earlier a e more =
      let s : StandsAmong p q earlier e.aim [] = stands p q earlier e.aim [] (subst (λ (l : Events). Extends p l q) e.is more) all in
      let m : MakesEvent s.at (events.Aim p.number a.addr) e.aim.reply s.next = subst (λ (v : Event). MakesEvent s.at v e.aim.reply s.next) e.refused.aims s.event in
      let n : true ≡ false = sym (ap is_aimed m.answered) ∙ e.refused.refused in cc

  -- A submission that wasn't taken is the last event.
  refused_plain : (made earlier : Events) (unit : ℕ) (a : Access) (answer : ChainReply) → EndsRefused unit p.number a made earlier → Extends p made q → unit < unit_count p → IsAtReset p.first → a.addr + a.len ≤ 2 ^ 52 → chain_reply made ≡ Some answer
      → is_odd answer ≡ false
  refused_plain made earlier unit a answer e more there reset fits decided =
      let x : LoggedEvent = e.last in
      let s : IsAnswered p q unit (earlier ++ e.before) x [] = answered earlier e.before [] x unit a e.submission (subst (λ (l : Events). Extends p l q) e.is more) there reset fits in
      last_decides made (earlier ++ e.before) x answer (e.is ∙ sym (append_assoc earlier e.before (x ∷ []))) decided
      ∙ ap (is_some_of is_odd) (submission_decides unit p.number a e.before x (last_stage made) e.submission)
      ∙ plain_submission (last_stage made) x.reply s.reply

  none_held : (t : TicketView) (held : Events) → AllByRecursion (IsHeldJudgement t.unit t.caller t.place) held → list_any (is_end t) held ≡ false
  none_held t [] h = refl
  none_held t (x ∷ xs) h =
      or_from (is_end t x) (list_any (is_end t) xs)
      (and_right (nat_lt t.place x.place) _ (and_right (same_event (judgement t) x.event) (is_verdict x.reply) (ap is_verdict h.0.reply)))
      (none_held t xs h.1)

  -- The ticket of a submission that was taken is open right after it.
  ticket_opened : (earlier later : Events) (x : LoggedEvent) (unit : ℕ) (s : StandsAmong p q earlier x later) → submits_on unit p.number x.event ≡ true → is_taken x.reply ≡ true → IsOpenTicket s.next (record { unit = unit; place = x.place; caller = p.number })
  ticket_opened earlier later x unit s submits taken =
      let number : s.next.number ≡ p.number = ap (λ (v : PortView). v.number) s.event.same ∙ s.number in
      let last : length s.next.log - 1 ≡ x.place = let l = s.place in omega arith in
      let is_ticket : last_ticket s.next unit ≡ record { unit = unit; place = x.place; caller = p.number } =
      ap (λ (n : ℕ). record { unit = unit; place = n; caller = s.next.number }) last ∙ ap (λ (n : ℕ). record { unit = unit; place = x.place; caller = n }) number in
      subst (IsOpenTicket s.next) is_ticket (new_ticket s.at s.next unit x.event x.reply s.event (ap (λ (n : ℕ). submits_on unit n x.event) s.number ∙ submits) taken)

  -- A judgement of it after others that were held is no odd one.
  judgement_plain : (earlier later held : Events) (x y : LoggedEvent) (unit stage : ℕ) (s : StandsAmong p q earlier x later) (z : StandsAmong s.next q held y []) → IsAtReset p.first → submits_on unit p.number x.event ≡ true → is_taken x.reply ≡ true
      → AllByRecursion (IsHeldJudgement unit p.number x.place) held → y.event ≡ events.Judge unit p.number x.place → is_odd (judgement_answer stage x.place y.reply) ≡ false
  judgement_plain earlier later held x y unit stage s z reset submits taken all_held event =
      let t : TicketView = record { unit = unit; place = x.place; caller = p.number } in
      let still : IsOpenTicket z.at t = ticket_kept s.next z.at held t z.own z.number (none_held t held all_held) (ticket_opened earlier later x unit s submits taken) in
      let first : z.at.first ≡ p.first = z.first ∙ ap (λ (v : PortView). v.first) s.event.same ∙ s.first in
      let at_reset : IsAtReset z.at.first = reset_at p z.at first reset in
      let j : MakesEvent z.at (judgement t) y.reply z.next = subst (λ (e : Event). MakesEvent z.at e y.reply z.next) event z.event in
      let valid : IsValidEvent (judgement t) = subst IsValidEvent event z.valid in
      plain_judgement stage x.place y.reply (open_reply z.at z.next t y.reply j at_reset z.all valid still)
      (λ next allowed. allowed_next z.at z.next unit p.number x.place next (subst (λ (v : Reply). MakesEvent z.at (judgement t) v z.next) allowed j) at_reset z.all valid)

  -- The last of the judgements of a submission that was taken is the last event.
  judged_plain : (made earlier : Events) (unit : ℕ) (a : Access) (answer : ChainReply) → EndsJudged unit p.number a made earlier → Extends p made q → unit < unit_count p → IsAtReset p.first → a.addr + a.len ≤ 2 ^ 52 → chain_reply made ≡ Some answer
      → is_odd answer ≡ false
  judged_plain made earlier unit a answer e more there reset fits decided =
      let x : LoggedEvent = e.last in
      let y : LoggedEvent = e.are.last in
      let w : IsAnswered p q unit (earlier ++ e.before) x e.judged = answered earlier e.before e.judged x unit a e.submission (subst (λ (l : Events). Extends p l q) e.is more) there reset fits in
      let s : StandsAmong p q (earlier ++ e.before) x e.judged = w.stands_so in
      let z : StandsAmong s.next q e.are.held y [] = stands s.next q e.are.held y [] (subst (λ (l : Events). Extends s.next l q) e.are.is s.more) all in
      let first : Events = earlier ++ (e.before ++ x ∷ e.are.held) in
      let is : made ≡ first ++ y ∷ [] =
      e.is ∙ ap (λ (l : Events). earlier ++ (e.before ++ x ∷ l)) e.are.is ∙ ap (λ (l : Events). earlier ++ l) (sym (append_assoc e.before (x ∷ e.are.held) (y ∷ []))) ∙ sym (append_assoc earlier (e.before ++ x ∷ e.are.held) (y ∷ [])) in
      last_decides made first y answer is decided
      ∙ ap (λ (v : Event). is_some_of is_odd (answer_to (last_stage made) v y.reply)) e.are.event
      ∙ judgement_plain (earlier ++ e.before) e.judged e.are.held x y unit (last_stage made) s z reset w.submits e.taken e.are.all_held e.are.event

  never_odd : (max : ℕ) (a : Access) (stages : List ℕ) (made : Events) (answer : ChainReply) → Extends p made q → IsAtReset p.first → a.addr + a.len ≤ 2 ^ 52 → AllByRecursion (IsBelow (unit_count p)) stages
      → through_stages p.number max a stages a.rrid made ≡ Some [] → chain_reply made ≡ Some answer → is_odd answer ≡ false
  never_odd max a [] made answer h reset fits units record_is decided =
      let none : made ≡ [] = let e : Some made ≡ Some [] = record_is in cc in
      absurd (let z : None ≡ Some answer = subst (λ (l : Events). chain_reply l ≡ Some answer) none decided in cc)
  never_odd max a (u ∷ us) made answer h reset fits units record_is decided =
      let s : LastStage p.number a (u ∷ us) made = last_stage_of p.number max a (u ∷ us) a.rrid made (omega arith) record_is in
      let unit : ℕ = get_or (u ∷ us) s.stage 0 in
      let b : Access = borne_by a s.requester in
      let there : unit < unit_count p = unit_there (unit_count p) (u ∷ us) s.stage units s.below in ⊎_elim
      (λ (e : EndsUnaimed p.number b made s.earlier). absurd (never_unaimed made s.earlier b e h))
      (λ (e : EndsRefused unit p.number b made s.earlier ⊎ EndsJudged unit p.number b made s.earlier). ⊎_elim
      (λ (e : EndsRefused unit p.number b made s.earlier). refused_plain made s.earlier unit b answer e h there reset fits decided)
      (λ (e : EndsJudged unit p.number b made s.earlier). judged_plain made s.earlier unit b answer e h there reset fits decided)
      e)
      s.ends

-- ---- tickets from before

abbrev IsPast : ℕ → LoggedEvent → Type 0
IsPast k x = k ≤ x.place

by_past : (k c : ℕ) (x : LoggedEvent) (xs : Events) → k ≤ x.place → AllByRecursion (IsPast k) (events_by c xs) → AllByRecursion (IsPast k) (events_by c (x ∷ xs))
by_past k c x xs h rest = by_test (eqb (caller_of x.event) c) _
    (λ own. subst (λ (t : Bool). AllByRecursion (IsPast k) (cond t (x ∷ events_by c xs) (events_by c xs))) (sym own) (h, rest))
    (λ other. subst (λ (t : Bool). AllByRecursion (IsPast k) (cond t (x ∷ events_by c xs) (events_by c xs))) (sym other) rest)

first_past : (k n c : ℕ) (r : Reply) (o : Option Event) (xs : Events) → k ≤ n → AllByRecursion (IsPast k) (events_by c xs) → AllByRecursion (IsPast k) (events_by c (logged_first n r o xs))
first_past k n c r None xs h rest = rest
first_past k n c r (Some e) xs h rest = by_past k c (record { place = n; event = e; reply = r }) xs h rest

-- No event of words stands before the first of them.
all_past : (k n c : ℕ) (s : FabricState) (words : List ℕ) → k ≤ n → AllByRecursion (IsPast k) (events_by c (logged_from state_after_word reply_to_word n s words))
all_past k n c s [] h = tt
all_past k n c s (w ∷ ws) h = first_past k n c (reply_to_word s n w) (event_of_word w) (logged_from state_after_word reply_to_word (suc n) (state_after_word s n w) ws) h (all_past k (suc n) c (state_after_word s n w) ws (omega arith))

aim_ends : (u : TicketView) (n addr : ℕ) (x : LoggedEvent) → x.event ≡ events.Aim n addr → is_end u x ≡ false
aim_ends u n addr x is = ends_other u x (ap (same_event (judgement u)) is)

-- The events of a submission end no ticket.
pub before_end : (u : TicketView) (s n : ℕ) (a : Access) (before : Events) (x : LoggedEvent) → IsSubmission s n a before x → list_any (is_end u) before ≡ false
before_end u s n a before x (inl w) = ap (list_any (is_end u)) w.alone
before_end u s n a before x (inr w) = ap (list_any (is_end u)) w.after_aim ∙ or_from (is_end u w.aim) false (aim_ends u n a.addr w.aim w.aims) refl

pub submission_ends : (u : TicketView) (s n : ℕ) (a : Access) (before : Events) (x : LoggedEvent) → IsSubmission s n a before x → is_end u x ≡ false
submission_ends u s n a before x (inl w) = ends_other u x (ap (same_event (judgement u)) w.event)
submission_ends u s n a before x (inr w) = ends_other u x (ap (same_event (judgement u)) w.event)

judgement_ends : (u : TicketView) (s n place : ℕ) (x : LoggedEvent) → u.place < place → x.event ≡ events.Judge s n place → is_end u x ≡ false
judgement_ends u s n place x h is =
    let t : TicketView = record { unit = s; place = place; caller = n } in
    ends_other u x (ap (same_event (judgement u)) is ∙ other_place u t (λ e. omega arith))

held_end : (u : TicketView) (s n place : ℕ) (xs : Events) → u.place < place → AllByRecursion (IsHeldJudgement s n place) xs → list_any (is_end u) xs ≡ false
held_end u s n place [] h all = refl
held_end u s n place (x ∷ xs) h all = or_from (is_end u x) (list_any (is_end u) xs) (judgement_ends u s n place x h all.0.event) (held_end u s n place xs h all.1)

judgements_end : (u : TicketView) (s n place : ℕ) (r : Reply) (xs : Events) → u.place < place → AreJudgements s n place r xs → list_any (is_end u) xs ≡ false
judgements_end u s n place r xs h are =
    ap (list_any (is_end u)) are.is ∙ none_more u are.held are.last (held_end u s n place are.held h are.all_held) (judgement_ends u s n place are.last h are.event)

both_end : (u : TicketView) (xs ys : Events) → list_any (is_end u) xs ≡ false → list_any (is_end u) ys ≡ false → list_any (is_end u) (xs ++ ys) ≡ false
both_end u xs ys h k = list_any-append (is_end u) xs ys ∙ or_from (list_any (is_end u) xs) (list_any (is_end u) ys) h k

none_left : (u : TicketView) (xs : Events) → Some xs ≡ Some [] → list_any (is_end u) xs ≡ false
none_left u xs h = let is : xs ≡ [] = cc in ap (list_any (is_end u)) is

-- The events of the stages are submissions, and judgements of these.
none_ends : (u : TicketView) (n max : ℕ) (a : Access) (stages : List ℕ) (rrid : ℕ) (made : Events) → AllByRecursion (IsPast (u.place + 1)) made → through_stages n max a stages rrid made ≡ Some [] → list_any (is_end u) made ≡ false
none_ends u n max a [] rrid made past h = none_left u made h
none_ends u n max a (s ∷ ss) rrid made past h =
    let b : Access = borne_by a rrid in
    let go : Go = through_stages n max a ss in ⊎_elim
    (λ (r : StageRefused n b made []). ap (list_any (is_end u)) r.is ∙ or_from (is_end u r.aim) false (aim_ends u n b.addr r.aim r.refused.aims) refl)
    (λ (w : StageSubmitted n max s b go made []). submitted (λ requester ys more k. none_ends u n max a ss requester ys more k) w)
    (stage_begins n max s b go made [] h)
  where
    Again : Type 0
    Again = (requester : ℕ) (ys : Events) → AllByRecursion (IsPast (u.place + 1)) ys → through_stages n max a ss requester ys ≡ Some [] → list_any (is_end u) ys ≡ false

    next : Again → (ys : Events) → AllByRecursion (IsPast (u.place + 1)) ys → (o : Option ℕ) → stage_following (through_stages n max a ss) o ys ≡ Some [] → list_any (is_end u) ys ≡ false
    next again ys more None h = none_left u ys h
    next again ys more (Some requester) h = again requester ys more h

    judged : Again → (x : LoggedEvent) (xs : Events) → u.place < x.place → AllByRecursion (IsPast (u.place + 1)) xs → (o : Option (Reply × Events)) → judgements max (events.Judge s n x.place) xs ≡ o → stage_judged (through_stages n max a ss) o ≡ Some []
        → list_any (is_end u) xs ≡ false
    judged again x xs later past None is h = absurd (let z : None ≡ Some [] = h in cc)
    judged again x xs later past (Some (r, ys)) is h =
        let b : BeginsWithJudgements s n x.place r xs ys = begins_with_judgements max s n x.place r xs ys is in
        let more : AllByRecursion (IsPast (u.place + 1)) ys = all_after (IsPast (u.place + 1)) b.judged ys (subst (AllByRecursion (IsPast (u.place + 1))) b.is past) in
        ap (list_any (is_end u)) b.is ∙ both_end u b.judged ys (judgements_end u s n x.place r b.judged later b.are) (next again ys more (next_requester r) h)

    after_it : Again → (x : LoggedEvent) (xs : Events) → u.place < x.place → AllByRecursion (IsPast (u.place + 1)) xs → stage_piece n max s (through_stages n max a ss) (Some (x, xs)) ≡ Some [] → list_any (is_end u) xs ≡ false
    after_it again x xs later past h =
        let go : Go = through_stages n max a ss in
        let j : Option (Reply × Events) = judgements max (events.Judge s n x.place) xs in by_test (is_taken x.reply) _
        (λ taken. judged again x xs later past j refl (subst (λ (t : Bool). cond t (stage_judged go j) (Some xs) ≡ Some []) taken h))
        (λ refused. none_left u xs (subst (λ (t : Bool). cond t (stage_judged go j) (Some xs) ≡ Some []) refused h))

    submitted : Again → StageSubmitted n max s (borne_by a rrid) (through_stages n max a ss) made [] → list_any (is_end u) made ≡ false
    submitted again w =
        let b : Access = borne_by a rrid in
        let more : AllByRecursion (IsPast (u.place + 1)) (w.last ∷ w.rest) = all_after (IsPast (u.place + 1)) w.before (w.last ∷ w.rest) (subst (AllByRecursion (IsPast (u.place + 1))) w.is past) in
        let later : u.place < w.last.place = let l = more.0 in omega arith in
        ap (list_any (is_end u)) w.is
        ∙ both_end u w.before (w.last ∷ w.rest) (before_end u s n b w.before w.last w.submission)
        (or_from (is_end u w.last) (list_any (is_end u) w.rest) (submission_ends u s n b w.before w.last w.submission) (after_it again w.last w.rest later more.1 w.piece))

-- ---- the whole

pub plays_through : (p q : PortView) (stages : List ℕ) (a : Access) (max : ℕ) (answer : ChainReply) → SendsThrough state_after_word reply_to_word p stages a max answer q → AllEventWords q.log → IsAtReset p.first → a.addr + a.len ≤ 2 ^ 52
    → AllByRecursion (IsBelow (unit_count p)) stages → PlaysThrough p stages a max answer q
plays_through p q stages a max answer s all reset fits units =
    let same = s.adds.same in
    let more : Extends p s.made q = extends p q s.made s.adds.later s.adds.own s.adds.log (ap (λ (v : PortView). v.number) same) (ap (λ (v : PortView). v.first) same) in
    let whole : through_stages p.number max a stages a.rrid s.made ≡ Some [] = ap (through_stages p.number max a stages a.rrid) (sym (append-nil s.made)) ∙ s.record_is [] in
    let plain : is_odd answer ≡ false = never_odd p q all max a stages s.made answer more reset fits units whole s.decided in record {
      made = s.made;
      adds = s.adds;
      whole = chain_whole s.made answer s.decided plain;
      few = s.few;
      record_is = s.record_is;
      decided = s.decided;
      never_odd = plain;
      others = λ u h. none_ends u p.number max a stages a.rrid s.made (subst (AllByRecursion (IsPast (u.place + 1))) more.own (all_past (u.place + 1) (length p.log) p.number _ more.words (omega arith))) whole;
    }
