-- How tickets stay open as events come.
use Rattle.std.proofs.Common.{◌≡◌, ℕ, suc, ◌+◌, ◌-◌, ◌≤◌, Bool, true, false, List, [], ◌∷◌, ◌++◌, length, Option, Some, None, eqb, refl, sym, ap, ◌∙◌, subst, arith, length-append, eq-eqb}
use Rattle.std.specs.Prelude.{◌&&◌, ◌||◌}
use Rattle.std.specs.List.{list_any}
use Rattle.std.proofs.lemmas.Bool.{and_from, or_from, cond_both, le-ltb}
use Rattle.std.proofs.lemmas.List.Folds.{list_any-append}
use Rattle.event_words.specs.declared.access.Access.{Access}
use Rattle.event_words.specs.declared.event.Event.{Event}
use Rattle.event_words.specs.declared.event.Event.TheVariants as events
use Rattle.event_words.specs.declared.reply.Reply.{Reply}
use Rattle.event_words.specs.declared.record.LoggedEvent.{LoggedEvent}
use Rattle.event_words.specs.Word.{event_of_word, word_of}
use Rattle.event_words.specs.Events.{same_event}
use Rattle.event_words.specs.Runs.{logged_from, logged_first}
use Rattle.event_words.specs.Records.{events_by, is_by, is_taken, is_verdict, wide_event}
use Rattle.event_words.specs.Valid.{is_narrow}
use Rattle.unit_core.specs.Units.{FabricState}
use Rattle.unit_core.specs.Fabrics.{state_after_word, reply_to_word}
use Rattle.checker_workers.specs.declared.ticket.Submitted.{Submitted}
use Rattle.checker_workers.specs.declared.ticket.Submitted.TheVariants.{Passed, Queued, Busy, Stalled}
use Rattle.checker_workers.specs.Ports.{PortView, port_events, MakesEvent, logged_at}
use Rattle.checker_workers.specs.TicketViews.{TicketView}
use Rattle.checker_workers.specs.Tickets.{IsOpenTicket, BearsTicket, HandsOut, MakesByWidth, MakesSubmission, is_ticket_submission, is_end, submits_on, submitted_reply, last_ticket}

-- ---- no event stands past the end of the log

ends_none : (t : TicketView) (x : LoggedEvent) → x.place ≤ t.place → is_end t x ≡ false
ends_none t x h = ap (λ (b : Bool). b && (same_event (events.Judge t.unit t.caller t.place) x.event && is_verdict x.reply)) (le-ltb t.place x.place h)

by-cons : (t : TicketView) (c : ℕ) (x : LoggedEvent) (xs : List LoggedEvent) → x.place ≤ t.place → list_any (is_end t) (events_by c xs) ≡ false → list_any (is_end t) (events_by c (x ∷ xs)) ≡ false
by-cons t c x xs h rest =
    cond_both (is_by c x) (x ∷ events_by c xs) (events_by c xs) (λ ys. list_any (is_end t) ys ≡ false)
    (λ e. or_from (is_end t x) (list_any (is_end t) (events_by c xs)) (ends_none t x h) rest)
    (λ e. rest)

first-ends : (t : TicketView) (c k : ℕ) (r : Reply) (o : Option Event) (xs : List LoggedEvent) → k ≤ t.place → list_any (is_end t) (events_by c xs) ≡ false → list_any (is_end t) (events_by c (logged_first k r o xs)) ≡ false
first-ends t c k r None xs h rest = rest
first-ends t c k r (Some e) xs h rest = by-cons t c (record { place = k; event = e; reply = r }) xs h rest

none_ends : (t : TicketView) (c k : ℕ) (st : FabricState) (ws : List ℕ) → k + length ws ≤ t.place → list_any (is_end t) (events_by c (logged_from state_after_word reply_to_word k st ws)) ≡ false
none_ends t c k st [] h = refl
none_ends t c k st (w ∷ ws) h = first-ends t c k (reply_to_word st k w) (event_of_word w) (logged_from state_after_word reply_to_word (suc k) (state_after_word st k w) ws) (omega arith) (none_ends t c (suc k) (state_after_word st k w) ws (omega arith))

-- ---- one more event

pub on_unit : (u c : ℕ) → (eqb u u && eqb c c) ≡ true
on_unit u c = and_from (eqb u u) (eqb c c) (eq-eqb u u refl) (eq-eqb c c refl)

-- The ticket of a submission that was just taken is open.
pub new_ticket : (p q : PortView) (unit : ℕ) (e : Event) (r : Reply) → MakesEvent p e r q → submits_on unit p.number e ≡ true → is_taken r ≡ true → IsOpenTicket q (last_ticket q unit)
new_ticket p q unit e r m submits taken =
    let words : List ℕ = p.log ++ m.between in
    let number : q.number ≡ p.number = ap (λ (v : PortView). v.number) m.same in
    let place : length q.log - 1 ≡ length words = let l = ap length m.log in omega (arith, length-append words (word_of e ∷ [])) in
    let t : TicketView = record { unit = unit; place = length words; caller = p.number } in
    let is : last_ticket q unit ≡ t = ap (λ (n : ℕ). record { unit = unit; place = n; caller = q.number }) place ∙ ap (λ (n : ℕ). record { unit = unit; place = length words; caller = n }) number in
    let x : LoggedEvent = logged_at (length words) e r in
    let submitted : is_ticket_submission t x ≡ true =
    and_from (eqb (length words) (length words)) _ (eq-eqb (length words) (length words) refl) (and_from (submits_on unit p.number e) (is_taken r) submits taken) in
    let before : list_any (is_end t) (port_events p) ≡ false = none_ends t p.number 0 p.first p.log (omega (arith, length-append p.log m.between)) in
    subst (λ (v : TicketView). IsOpenTicket q v) (sym is) (record {
      caller = sym number;
      taken = ap (list_any (is_ticket_submission t)) m.own ∙ list_any-append (is_ticket_submission t) (port_events p) (x ∷ []) ∙ any_last (list_any (is_ticket_submission t) (port_events p)) (is_ticket_submission t x) submitted;
      open_still = ap (list_any (is_end t)) m.own ∙ list_any-append (is_end t) (port_events p) (x ∷ []) ∙ or_from _ _ before (or_from _ _ (ends_none t x (omega arith)) refl);
    })
  where
    any_last : (b c : Bool) → c ≡ true → (b || (c || false)) ≡ true
    any_last true c h = refl
    any_last false c h = ap (λ (d : Bool). d || false) h

-- Events among which there is no verdict on it leave a ticket open.
pub ticket_kept : (p q : PortView) (made : List LoggedEvent) (t : TicketView) → port_events q ≡ port_events p ++ made → q.number ≡ p.number → list_any (is_end t) made ≡ false → IsOpenTicket p t → IsOpenTicket q t
ticket_kept p q made t own number none h = record {
  caller = h.caller ∙ sym number;
  taken = ap (list_any (is_ticket_submission t)) own ∙ list_any-append (is_ticket_submission t) (port_events p) made ∙ ap (λ (b : Bool). b || list_any (is_ticket_submission t) made) h.taken;
  open_still = ap (list_any (is_end t)) own ∙ list_any-append (is_end t) (port_events p) made ∙ or_from _ _ h.open_still none;
}

-- The ticket of a submission that was taken is open.
taken_ticket : (p q : PortView) (unit : ℕ) (a : Access) (r : Reply) → MakesSubmission p unit a r q → is_taken r ≡ true → IsOpenTicket q (last_ticket q unit)
taken_ticket p q unit a r m taken = by (is_narrow a) m
  where
    by : (narrow : Bool) → MakesByWidth narrow p unit a r q → IsOpenTicket q (last_ticket q unit)
    by true s = new_ticket p q unit (events.Submit unit p.number a) r s (on_unit unit p.number) taken
    by false s =
        let own : s.between.number ≡ p.number = ap (λ (v : PortView). v.number) s.aim.same in
        new_ticket s.between q unit (wide_event unit p.number a) r s.wide (ap (λ (n : ℕ). submits_on unit n (wide_event unit p.number a)) own ∙ on_unit unit p.number) taken

-- what a submission hands out
pub handed_out : (p q : PortView) (unit : ℕ) (a : Access) (r : Reply) (s : Submitted) → MakesSubmission p unit a r q → submitted_reply s ≡ r → BearsTicket q unit s → HandsOut q unit s
handed_out p q unit a r (Passed t) m is bears = (bears, subst (IsOpenTicket q) (sym bears) (taken_ticket p q unit a r m (ap is_taken (sym is))))
handed_out p q unit a r (Queued t) m is bears = (bears, subst (IsOpenTicket q) (sym bears) (taken_ticket p q unit a r m (ap is_taken (sym is))))
handed_out p q unit a r Busy m is bears = tt
handed_out p q unit a r (Stalled d) m is bears = tt
