-- One judgement more is held, or the last one tells the answer.
use Rattle.std.proofs.Common.{ℕ, refl, sym, ◌∙◌, subst, arith}
use Rattle.event_words.specs.declared.event.Event.{Event}
use Rattle.event_words.specs.declared.event.Event.TheVariants as events
use Rattle.event_words.specs.Word.{word_of}
use Rattle.shared_log.specs.Callers.{AfterCall}
use Rattle.cascade_path.proofs.Making.{same_number, belongs_still}
use Rattle.cascade_path.proofs.Turns.{held_not}
use Rattle.cascade_path.proofs.Judging.{judging_none, judging_held, judging_last, judging_end}
use Rattle.cascade_path.proofs.chain.judge_until.Goals as goal

pub loop-try-init : goal.loop-try-init
loop-try-init g c =
    let m = g.M.Machine in
    (judging_none m.after m.reply c.args.caller.now (events.Judge c.args.unit c.args.caller.now.number c.args.place) c.args.tries, c.requires.caller)

pub call-requires-clause-belongs : goal.call-requires-clause-belongs
call-requires-clause-belongs g c =
    let m = g.M.Machine in
    let b = c.loop-try.invariant.0 in
    belongs_still m.after m.reply c.args.caller.now c.loop-try.caller b.made c.args.shared.now b.adds c.requires.belongs

pub call-requires-clause-left : goal.call-requires-clause-left
call-requires-clause-left g c =
    let b = c.loop-try.invariant.0 in
    let left = b.adds.left in
    let count = b.count in
    omega arith

pub call-requires-clause-event : goal.call-requires-clause-event
call-requires-clause-event g c =
    let m = g.M.Machine in
    let b = c.loop-try.invariant.0 in (
      (record { unit_below = c.requires.unit; caller_below = omega arith }, c.requires.place),
      c.number.ensures.number ∙ sym (same_number m.after m.reply c.args.caller.now c.loop-try.caller b.made b.adds),
    )

pub returns-in_default : goal.returns-in_default
returns-in_default g c =
    let m = g.M.Machine in
    let e : Event = events.Judge c.args.unit c.args.caller.now.number c.args.place in
    let made = subst (λ (n : ℕ). AfterCall m.after m.reply c.loop-try.caller (word_of (events.Judge c.args.unit n c.args.place)) c.call.result c.call.new.self) c.number.ensures.number c.call.ensures.call in
    record {
      judges = judging_last m.after m.reply c.args.caller.now c.loop-try.caller c.call.new.self e c.args.tries c.loop-try._try c.call.result c.loop-try.invariant.0 (omega arith) made
          (record { unit_below = c.requires.unit; caller_below = omega arith }, c.requires.place) refl (held_not c.call.result c.in_default.not-Held);
      caller = c.call.ensures.caller;
    }

pub loop-try-preserved : goal.loop-try-preserved
loop-try-preserved g c =
    let m = g.M.Machine in
    let e : Event = events.Judge c.args.unit c.args.caller.now.number c.args.place in
    let made = subst (λ (n : ℕ). AfterCall m.after m.reply c.loop-try.caller (word_of (events.Judge c.args.unit n c.args.place)) c.call.result c.call.new.self) c.number.ensures.number c.call.ensures.call in (
      judging_held m.after m.reply c.args.caller.now c.loop-try.caller c.call.new.self e c.args.tries c.loop-try._try c.call.result c.loop-try.invariant.0 (omega arith) made
          (record { unit_below = c.requires.unit; caller_below = omega arith }, c.requires.place) refl c.in-Held.is,
      c.call.ensures.caller,
    )

pub returns-clause-judges : goal.returns-clause-judges
returns-clause-judges g c =
    let m = g.M.Machine in
    judging_end m.after m.reply c.args.caller.now c.loop-try.caller (events.Judge c.args.unit c.args.caller.now.number c.args.place) c.args.tries c.loop-try._try c.loop-try.invariant.0 (omega arith) (omega arith) c.requires.tries
