-- A submission by one event or two: what its unit replies, and what the port made.
use Rattle.std.proofs.Common.{◌≡◌, ℕ, ◌+◌, ◌^◌, ◌<◌, ◌≤◌, Bool, true, false, List, [], ◌∷◌, ◌++◌, length, refl, sym, ap, ◌∙◌, subst, arith, length-append, inl, inr}
use Rattle.event_words.specs.declared.access.Access.{Access}
use Rattle.event_words.specs.declared.event.Event.{Event}
use Rattle.event_words.specs.declared.event.Event.TheVariants as events
use Rattle.event_words.specs.declared.reply.Reply.{Reply}
use Rattle.event_words.specs.declared.reply.Reply.TheVariants as replies
use Rattle.event_words.specs.declared.record.LoggedEvent.{LoggedEvent}
use Rattle.event_words.specs.Records.{wide_event}
use Rattle.event_words.specs.Valid.{is_narrow}
use Rattle.event_words.specs.Word.{word_of}
use Rattle.cascade_path.specs.Stages.{IsSubmission}
use Rattle.checker_workers.specs.Ports.{PortView, IsAtReset, MakesEvent, port_events, unit_count}
use Rattle.checker_workers.specs.Tickets.{MakesByWidth, MakesSubmission, MakesWide, is_submit_reply}
use Rattle.checker_workers.specs.Pieces.{MakesEvents}
use Rattle.checker_workers.proofs.Aims.{wide_answers}
use Rattle.checker_workers.proofs.Making.{answers, submit_reply}
use Rattle.checker_workers.proofs.Turns.{made_by, makes_one, makes_more, grown}

-- What the calls of a submission tell.
pub record Submits (p : PortView) (unit : ℕ) (a : Access) (r : Reply) (q : PortView) : Type 0 where
  pub event : MakesSubmission p unit a r q
  pub reply : is_submit_reply r ≡ true
  pub some : 1 ≤ length q.log

longer : (p q : PortView) (e : Event) (r : Reply) (m : MakesEvent p e r q) → length q.log ≡ length (p.log ++ m.between) + 1
longer p q e r m = ap length m.log ∙ length-append (p.log ++ m.between) (word_of e ∷ [])

pub submits_narrow : (p q : PortView) (unit caller : ℕ) (a : Access) (r : Reply) → MakesEvent p (events.Submit unit caller a) r q → caller ≡ p.number → unit < unit_count p → is_narrow a ≡ true → Submits p unit a r q
submits_narrow p q unit caller a r m own there narrow =
    let e : Event = events.Submit unit caller a in
    let an = answers p q e e unit r m refl refl there in record {
      event = subst (λ (z : Bool). MakesByWidth z p unit a r q) (sym narrow) (subst (λ (n : ℕ). MakesEvent p (events.Submit unit n a) r q) own m);
      reply = ap is_submit_reply an.reply ∙ submit_reply (length (p.log ++ m.between)) an.unit caller a;
      some = let l = longer p q e r m in omega arith;
    }

pub submits_wide : (p b q : PortView) (unit : ℕ) (a : Access) (r : Reply) → MakesEvent p (events.Aim p.number a.addr) replies.Aimed b → MakesEvent b (wide_event unit b.number a) r q → b.number < 32 → unit < unit_count p → is_narrow a ≡ false
    → a.addr + a.len ≤ 2 ^ 52 → IsAtReset b.first → Submits p unit a r q
submits_wide p b q unit a r aim m small there wide fits reset =
    let number : b.number ≡ p.number = ap (λ (v : PortView). v.number) aim.same in
    let count : unit_count b ≡ unit_count p = ap (λ (v : PortView). unit_count v) aim.same in
    let e : Event = wide_event unit b.number a in
    let an = wide_answers b q unit b.number a r m (port_events p) (made_by p b (events.Aim p.number a.addr) replies.Aimed aim) p.number reset small refl fits aim.own refl (omega arith) in record {
      event = subst (λ (z : Bool). MakesByWidth z p unit a r q) (sym wide) (record { between = b; aim = aim; wide = subst (λ (n : ℕ). MakesEvent b (wide_event unit n a) r q) number m });
      reply = ap is_submit_reply an.reply ∙ submit_reply (length (b.log ++ m.between)) an.unit b.number a;
      some = let l = longer b q e r m in omega arith;
    }

-- The events that a submission made.
pub record SubmissionMade (p : PortView) (unit : ℕ) (a : Access) (r : Reply) (q : PortView) : Type 0 where
  pub before : List LoggedEvent
  pub last : LoggedEvent
  pub adds : MakesEvents p (before ++ last ∷ []) q
  pub is : IsSubmission unit p.number a before last
  pub place : last.place + 1 ≡ length q.log
  pub past : length p.log ≤ last.place
  pub reply : last.reply ≡ r

made_narrow : (p q : PortView) (unit : ℕ) (a : Access) (r : Reply) → is_narrow a ≡ true → MakesEvent p (events.Submit unit p.number a) r q → SubmissionMade p unit a r q
made_narrow p q unit a r narrow m =
    let e : Event = events.Submit unit p.number a in record {
      before = [];
      last = made_by p q e r m;
      adds = makes_one p q e r m;
      is = inl (record { narrow = narrow; alone = refl; event = refl });
      place = sym (longer p q e r m);
      past = omega (arith, length-append p.log m.between);
      reply = refl;
    }

made_wide : (p q : PortView) (unit : ℕ) (a : Access) (r : Reply) → is_narrow a ≡ false → MakesWide p unit a r q → SubmissionMade p unit a r q
made_wide p q unit a r wide m =
    let e : Event = events.Aim p.number a.addr in
    let f : Event = wide_event unit p.number a in
    let x : LoggedEvent = made_by p m.between e replies.Aimed m.aim in
    let one = makes_one p m.between e replies.Aimed m.aim in record {
      before = x ∷ [];
      last = made_by m.between q f r m.wide;
      adds = makes_more p m.between q (x ∷ []) f r one m.wide;
      is = inr (record { wide = wide; aim = x; after_aim = refl; aims = refl; aimed = refl; event = refl });
      place = sym (longer m.between q f r m.wide);
      past = let l = grown p m.between (x ∷ []) one in omega (arith, length-append m.between.log m.wide.between);
      reply = refl;
    }

pub submission_made : (p q : PortView) (unit : ℕ) (a : Access) (r : Reply) → MakesSubmission p unit a r q → SubmissionMade p unit a r q
submission_made p q unit a r m = by (is_narrow a) refl m
  where
    by : (z : Bool) → is_narrow a ≡ z → MakesByWidth z p unit a r q → SubmissionMade p unit a r q
    by true e s = made_narrow p q unit a r e s
    by false e s = made_wide p q unit a r e s
