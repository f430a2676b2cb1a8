-- What a judgement of an open ticket replies.
use Rattle.std.proofs.Common.{◌≡◌, ℕ, ◌<◌, Bool, true, false, cond, [], ◌∷◌, ◌++◌, length, Option, Some, None, find, refl, sym, ap, ◌∙◌, ⊎_elim}
use Rattle.std.specs.Prelude.{nat_lt}
use Rattle.std.proofs.lemmas.Bool.{and_right, or_from}
use Rattle.event_words.specs.declared.reply.Decision.{Decision}
use Rattle.event_words.specs.declared.reply.Decision.TheVariants as decisions
use Rattle.event_words.specs.declared.reply.Verdict.{Verdict}
use Rattle.event_words.specs.declared.reply.Reply.{Reply}
use Rattle.event_words.specs.declared.reply.Reply.TheVariants as replies
use Rattle.event_words.specs.declared.access.Access.{Access}
use Rattle.event_words.specs.declared.record.LoggedEvent.{LoggedEvent}
use Rattle.event_words.specs.Decisions.{decision}
use Rattle.event_words.specs.Events.{same_event}
use Rattle.event_words.specs.Records.{is_held, is_verdict}
use Rattle.unit_core.specs.declared.Submission.{Submission}
use Rattle.unit_core.specs.Submissions.{is_item}
use Rattle.unit_core.specs.Units.{UnitState, judge_item, verdict_step, closed}
use Rattle.event_words.specs.Valid.{IsValidEvent}
use Rattle.shared_log.specs.Words.{AllEventWords}
use Rattle.checker_workers.specs.declared.ticket.Judged.TheVariants.{Done, Held}
use Rattle.checker_workers.specs.Ports.{PortView, IsAtReset, MakesEvent, units_after, unit_count, logged_at}
use Rattle.checker_workers.specs.TicketViews.{TicketView}
use Rattle.checker_workers.specs.Tickets.{IsOpenTicket, Judges, is_end, is_in_queue, unit_queues, item_waits}
use Rattle.checker_workers.proofs.Making.{answers, with_reply}
use Rattle.checker_workers.proofs.OpenTickets.{ticket_kept}
use Rattle.checker_workers.proofs.Standing.{judgement, open_reply}

-- ---- a judgement's replies

verdict_held : (u : UnitState) (a : Access) (d : Decision) → is_held (verdict_step u a d).1 ≡ false
verdict_held u a decisions.Allowed = refl
verdict_held u a (decisions.Denied kind entry mute_irq mute_err) = refl

held_by : (u v : UnitState) (item : Submission) (d : Decision) (b : Bool) → is_held (cond b (u, replies.Held) (verdict_step v item.access d)).1 ≡ b
held_by u v item d true = refl
held_by u v item d false = verdict_held v item.access d

held_item : (u : UnitState) (place caller : ℕ) (o : Option Submission) → is_held (judge_item u place caller o).1 ≡ item_waits o
held_item u place caller None = refl
held_item u place caller (Some item) = held_by u (closed place caller u) item (decision u.registers item.access) item.queued

-- ---- judgements

held_where : (p q : PortView) (t : TicketView) (r : Reply) (m : MakesEvent p (judgement t) r q) → t.unit < unit_count p → is_held r ≡ is_in_queue t (units_after p (p.log ++ m.between))
held_where p q t r m unit =
    let a = answers p q (judgement t) (judgement t) t.unit r m refl refl unit in
    ap is_held a.reply ∙ held_item a.unit t.place t.caller (find (is_item t.place t.caller) a.unit.submissions)
    ∙ ap (λ (o : Option UnitState). unit_queues t.place t.caller o) (sym a.is)

pub judged_done : (p q : PortView) (t : TicketView) (r : Reply) (v : Verdict) → MakesEvent p (judgement t) r q → t.unit < unit_count p → r ≡ replies.Verdict v → Judges p t (Done v) q
judged_done p q t r v m unit is = record {
  event = with_reply p q (judgement t) r (replies.Verdict v) m is;
  held = ap is_held (sym is) ∙ held_where p q t r m unit;
  ticket = tt;
}

pub judged_held : (p q : PortView) (t : TicketView) (r : Reply) → MakesEvent p (judgement t) r q → t.unit < unit_count p → IsOpenTicket p t → r ≡ replies.Held → Judges p t (Held t) q
judged_held p q t r m unit h is =
    let x : LoggedEvent = logged_at (length (p.log ++ m.between)) (judgement t) r in
    let none : is_end t x ≡ false = and_right (nat_lt t.place x.place) _ (and_right (same_event (judgement t) (judgement t)) (is_verdict r) (ap is_verdict is)) in record {
      event = with_reply p q (judgement t) r replies.Held m is;
      held = ap is_held (sym is) ∙ held_where p q t r m unit;
      ticket = (refl, ticket_kept p q (x ∷ []) t m.own (ap (λ (v : PortView). v.number) m.same) (or_from (is_end t x) false none refl) h);
    }

-- A judgement of an open ticket is replied nothing else.
pub judged_only : (p q : PortView) (t : TicketView) (r : Reply) → MakesEvent p (judgement t) r q → IsAtReset p.first → AllEventWords q.log → IsValidEvent (judgement t) → IsOpenTicket p t
    → ((v : Verdict) → r ≡ replies.Verdict v → ⊥) → (r ≡ replies.Held → ⊥) → ⊥
judged_only p q t r m reset all valid h no_verdict not_held = ⊎_elim
    (λ (e : r ≡ replies.Held). not_held e)
    (λ (e : (v : Verdict) × (r ≡ replies.Verdict v)). no_verdict e.0 e.1)
    (open_reply p q t r m reset all valid h)
