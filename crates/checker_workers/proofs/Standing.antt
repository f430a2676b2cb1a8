-- A judgement of an open ticket finds its submission: it replies Held or a verdict.
use Rattle.std.proofs.Common.{◌≡◌, ℕ, ◌<◌, true, false, List, [], ◌∷◌, ◌++◌, Some, length, eqb, refl, sym, ap, ◌∙◌, subst, ⊎_elim, ◌⊎◌, inl, inr}
use Rattle.std.specs.Prelude.{◌&&◌, nat_lt}
use Rattle.std.specs.List.{AllByRecursion, list_any}
use Rattle.std.proofs.lemmas.Bool.{and_parts, and_from, eqb-true, eq-eqb, lt-ltb}
use Rattle.std.proofs.lemmas.Option.{slice_get_within}
use Rattle.std.proofs.Math.Seq.{take-append_seam}
use Rattle.event_words.specs.declared.shape.Shape.{Shape}
use Rattle.event_words.specs.declared.access.Access.{Access}
use Rattle.event_words.specs.declared.event.Event.{Event}
use Rattle.event_words.specs.declared.event.Event.TheVariants as events
use Rattle.event_words.specs.declared.reply.Reply.{Reply}
use Rattle.event_words.specs.declared.reply.Reply.TheVariants as replies
use Rattle.event_words.specs.declared.reply.Verdict.{Verdict}
use Rattle.event_words.specs.declared.record.LoggedEvent.{LoggedEvent}
use Rattle.event_words.specs.Word.{word_of}
use Rattle.event_words.specs.Valid.{IsValidEvent}
use Rattle.event_words.specs.Events.{same_event}
use Rattle.event_words.specs.Records.{is_by, events_by, is_taken, is_verdict}
use Rattle.event_words.specs.Runs.{IsEventWord, run, logged}
use Rattle.event_words.proofs.Runs.{events-of-beginning, word_of-is_word, event_of_word-word_of}
use Rattle.event_words.proofs.SameEvents.{same_event_self}
use Rattle.event_words.proofs.ListItems.{all_push}
use Rattle.unit_core.specs.Units.{FabricState, fabric_at_reset}
use Rattle.unit_core.specs.Fabrics.{state_after_word, reply_to_word}
use Rattle.unit_core.specs.Histories.{History, event_at, reply_at, history_of, events_of_words, logged_in}
use Rattle.shared_log.specs.Words.{AllEventWords}
use Rattle.shared_log.proofs.WordLists.{AllEventWords-left}
use Rattle.history_laws.specs.Tickets.{IsTaken, IsOwnJudgement}
use Rattle.history_laws.proofs.Accepted.{Submits, taken_submission}
use Rattle.history_laws.proofs.WordHistories.{event_at_words, reply_at_words, is_entry, has_entry, length_events}
use Rattle.history_laws.proofs.LoggedTests.{found_kept, none_kept}
use Rattle.history_laws.proofs.TicketReplies.{IsJudged, judged_open, same_event_before, same_reply_before, get_last, IsSubmissionEntry}
use Rattle.checker_workers.specs.Ports.{PortView, IsAtReset, MakesEvent, port_events, state_after}
use Rattle.checker_workers.specs.TicketViews.{TicketView}
use Rattle.checker_workers.specs.Tickets.{IsOpenTicket, is_ticket_submission, is_end, submits_on}
use Rattle.checker_workers.proofs.Making.{reply_of_event}

abbrev pub judgement : TicketView → Event
judgement t = events.Judge t.unit t.caller t.place

-- ---- the tests tell

taken_reply : (r : Reply) → is_taken r ≡ true → (r ≡ replies.Passed) ⊎ (r ≡ replies.Queued)
taken_reply replies.Passed e = inl refl
taken_reply replies.Queued e = inr refl
taken_reply _ e = absurd (let n : false ≡ true = e in cc)

submits_so : (u c : ℕ) (e : Event) → submits_on u c e ≡ true → Submits u c e
submits_so u c (events.Submit x y a) s = let b = and_parts (eqb x u) (eqb y c) s in (eqb-true x u b.0, eqb-true y c b.1)
submits_so u c (events.Wide x y r k n) s = let b = and_parts (eqb x u) (eqb y c) s in (eqb-true x u b.0, eqb-true y c b.1)
submits_so u c _ s = absurd (let n : false ≡ true = s in cc)

finds : (t : TicketView) (x : LoggedEvent) → is_ticket_submission t x ≡ true → IsSubmissionEntry t.unit t.caller t.place x
finds t x e =
    let a = and_parts (eqb x.place t.place) (submits_on t.unit t.caller x.event && is_taken x.reply) e in
    let b = and_parts (submits_on t.unit t.caller x.event) (is_taken x.reply) a.1 in
    record { place = eqb-true x.place t.place a.0; event = submits_so t.unit t.caller x.event b.0; reply = taken_reply x.reply b.1 }

-- An event that submits, and that was taken, is a submission of some access.
taken_there : (h : History) (k p u c : ℕ) (e : Event) (r : Reply) → event_at h k ≡ Some e → reply_at h k ≡ Some r → (r ≡ replies.Passed) ⊎ (r ≡ replies.Queued) → Submits u c e → k ≡ p → (a : Access) × IsTaken h u c p a
taken_there h k p u c e r event reply taken submits place =
    let what = taken_submission h u c k e event submits
    (⊎_elim (λ (is : r ≡ replies.Passed). inl (reply ∙ ap (λ (v : Reply). Some v) is)) (λ (is : r ≡ replies.Queued). inr (reply ∙ ap (λ (v : Reply). Some v) is)) taken) in
    (what.0, subst (λ (n : ℕ). IsTaken h u c n what.0) place what.1)

ends : (t : TicketView) (x : LoggedEvent) (v : Verdict) → t.place < x.place → x.event ≡ judgement t → x.reply ≡ replies.Verdict v → is_end t x ≡ true
ends t x v later e r =
    and_from (nat_lt t.place x.place) _ (lt-ltb t.place x.place later)
    (and_from (same_event (judgement t) x.event) (is_verdict x.reply) (ap (same_event (judgement t)) e ∙ same_event_self (judgement t)) (ap is_verdict r))

-- ---- over words

within_words : (shapes : List Shape) (words : List ℕ) → AllByRecursion IsEventWord words → (k : ℕ) (e : Event) → event_at (history_of shapes words) k ≡ Some e → k < length words
within_words shapes words all k e q = subst (λ (n : ℕ). k < n) (length_events words all) (slice_get_within (events_of_words words) k e q)

-- The reply to a judgement of a ticket after words, of whose events the ticket's submission is one,
-- and no verdict on it.
judged_words : (shapes : List Shape) (words : List ℕ) → AllByRecursion IsEventWord words → (t : TicketView) → IsValidEvent (judgement t)
    → list_any (is_ticket_submission t) (events_by t.caller (logged_in shapes words)) ≡ true → list_any (is_end t) (events_by t.caller (logged_in shapes words)) ≡ false
    → IsJudged (reply_to_word (run state_after_word (fabric_at_reset shapes) words) (length words) (word_of (judgement t)))
judged_words shapes words all t valid some none =
    let w = word_of (judgement t) in
    let found = found_kept (is_ticket_submission t) (is_by t.caller) (logged_in shapes words) some in
    let k = found.index in
    let is = finds t found.item found.passes in
    let longer = all_push IsEventWord words w all (word_of-is_word (judgement t) valid) in
    let h = history_of shapes (words ++ w ∷ []) in
    let here = is_entry shapes words all k found.item found.there in
    let place : k ≡ t.place = sym here.place ∙ is.place in
    let before : k < length words = within_words shapes words all k found.item.event here.event in
    let event = same_event_before shapes words (w ∷ []) all longer k before ∙ here.event in
    let reply = same_reply_before shapes words (w ∷ []) all longer k before ∙ here.reply in
    let what = taken_there h k t.place t.unit t.caller found.item.event found.item.reply event reply is.reply is.event place in
    let own : IsOwnJudgement h t.unit t.caller t.place (length words) = record {
      event = event_at_words shapes (words ++ w ∷ []) longer (length words) w (judgement t) (get_last words w) (event_of_word-word_of (judgement t) valid);
      later = subst (λ n. n < length words) place before;
    } in
    judged_open h t.unit t.caller t.place (length words) what.0 _ what.1 own
    (λ j l v.
    let e = sym (same_event_before shapes words (w ∷ []) all longer j l) ∙ v.own.event in
    let r = sym (same_reply_before shapes words (w ∷ []) all longer j l) ∙ v.reply in
    let y : LoggedEvent = record { place = j; event = judgement t; reply = replies.Verdict v.verdict } in
    let off = none_kept (is_end t) (is_by t.caller) (logged_in shapes words) none j y (has_entry shapes words all j (judgement t) (replies.Verdict v.verdict) e r) (eq-eqb t.caller t.caller refl) in
    let n : true ≡ false = sym (ends t y v.verdict v.own.later refl refl) ∙ off in cc)
    (reply_at_words shapes (words ++ w ∷ []) longer (length words) w (get_last words w)
    ∙ ap (λ ws. Some (reply_to_word (run state_after_word (fabric_at_reset shapes) ws) (length words) w)) (take-append_seam words (w ∷ [])))

-- ---- at a port

-- A judgement of an open ticket replies Held or a verdict, whatever others did since.
pub open_reply : (p q : PortView) (t : TicketView) (r : Reply) (m : MakesEvent p (judgement t) r q) → IsAtReset p.first → AllEventWords q.log → IsValidEvent (judgement t) → IsOpenTicket p t → IsJudged r
open_reply p q t r m reset all valid h =
    let words : List ℕ = p.log ++ m.between in
    let w = word_of (judgement t) in
    let before : AllByRecursion IsEventWord words = AllEventWords-left words (w ∷ []) (subst (AllByRecursion IsEventWord) m.log all) in
    let own : events_by t.caller (logged_in reset.shapes words) ≡ port_events p =
    ap (λ (n : ℕ). events_by n (logged_in reset.shapes words)) h.caller
    ∙ ap (λ (s : FabricState). events_by p.number (logged state_after_word reply_to_word s words)) (sym reset.is)
    ∙ events-of-beginning state_after_word reply_to_word p.number p.first p.log m.between m.others in
    let j = judged_words reset.shapes words before t valid (ap (list_any (is_ticket_submission t)) own ∙ h.taken) (ap (list_any (is_end t)) own ∙ h.open_still) in
    let at : reply_to_word (run state_after_word (fabric_at_reset reset.shapes) words) (length words) w ≡ r =
    ap (λ (s : FabricState). reply_to_word (run state_after_word s words) (length words) w) (sym reset.is)
    ∙ reply_of_event (length words) (state_after p words) (judgement t) valid ∙ sym m.answered in
    subst IsJudged at j
