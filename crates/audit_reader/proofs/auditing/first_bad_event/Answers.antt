-- One event's line more is read, or is the first that is bad.
use Rattle.std.proofs.Common.{Bool, subst, rules, arith}
use Rattle.audit_reader.specs.Following.{EventAnswer}
use Rattle.audit_reader.proofs.GoodLines.{lists_none, read_more}
use Rattle.audit_reader.proofs.auditing.first_bad_event.Goals as goal

pub returns-then-not-event_is_right-clause-answer : goal.returns-then-not-event_is_right-clause-answer
returns-then-not-event_is_right-clause-answer c = λ script bytes most begun.
    let r = c.loop-place.invariant.read script bytes begun in
    let old = c.loop-place.unread in
    let answer = c.event_is_right.ensures.answer script r.0 r.2.seen r.1 in
    lists_none script bytes c.args.count r.0 c.loop-place.units.state c.loop-place.cursors old r.2 most c.loop-place.place r.1 c.loop-place-test.true
    (subst (λ (b : Bool). EventAnswer b script r.0 old c.event_is_right.new.unread c.event_is_right.new.units.state c.event_is_right.new.cursors) c.if-not-event_is_right.true answer)

pub loop-place-preserved : goal.loop-place-preserved
loop-place-preserved c = record {
  next = search rules;
  room = search rules;
  most = search rules;
  few = search rules;
  read = λ script bytes begun.
      let r = c.loop-place.invariant.read script bytes begun in
      let old = c.loop-place.unread in
      let new = c.event_is_right.new.unread in
      let answer = c.event_is_right.ensures.answer script r.0 r.2.seen r.1 in
      read_more script bytes c.args.count r.0 c.loop-place.units.state c.event_is_right.new.units.state c.loop-place.cursors c.event_is_right.new.cursors old new c.loop-place.place
      r.2 r.1 c.loop-place-test.true
      (subst (λ (b : Bool). EventAnswer b script r.0 old new c.event_is_right.new.units.state c.event_is_right.new.cursors) c.if-not-event_is_right.false answer);
}

pub returns-clause-answer : goal.returns-clause-answer
returns-clause-answer c = λ script bytes most begun.
    let r = c.loop-place.invariant.read script bytes begun in
    (r.0, omega (arith, r.1, c.loop-place-test.false, c.loop-place.auto.place-end), r.2)
