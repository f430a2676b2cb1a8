-- An access is submitted by one event, or by two, or its aim is not taken.
use Rattle.std.proofs.Common.{sym, ◌∙◌, arith}
use Rattle.event_words.specs.declared.event.Event.TheVariants as events
use Rattle.event_words.specs.Records.{wide_event}
use Rattle.event_words.specs.Valid.{IsValidEvent}
use Rattle.cascade_path.proofs.Stages.{aim_refused}
use Rattle.cascade_path.proofs.Submits.{submits_narrow, misses_aim, submits_wide}
use Rattle.cascade_path.proofs.chain.submit.Goals as goal

pub returns-then-narrow-clause-submits : goal.returns-then-narrow-clause-submits
returns-then-narrow-clause-submits g c =
    let m = g.M.Machine in
    let a = c.args in
    let narrow = sym c.narrow.ensures ∙ c.if-narrow.true in
    let valid : IsValidEvent (events.Submit a.unit c.number-number.result a.access) = (record { unit_below = c.requires.unit; caller_below = omega arith }, c.requires.access, narrow) in
    submits_narrow m.after m.reply a.caller.now c.call.new.self a.unit c.number-number.result a.access c.call.result c.call.ensures.call c.number-number.ensures.number valid narrow

pub returns-in_default : goal.returns-in_default
returns-in_default g c =
    let m = g.M.Machine in
    let a = c.args in
    let access = c.requires.access in
    let wide = sym c.narrow.ensures ∙ c.if-narrow.false in
    let valid : IsValidEvent (events.Aim c.number-number.result a.access.addr) = (omega arith, omega arith) in
    record {
      submits = misses_aim m.after m.reply a.caller.now c.call-2.new.self a.stage c.number-number.result a.access c.call-2.result c.call-2.ensures.call c.number-number.ensures.number valid wide (aim_refused c.call-2.result c.in_default.not-Aimed);
      caller = c.call-2.ensures.caller;
    }

pub returns-clause-submits : goal.returns-clause-submits
returns-clause-submits g c =
    let m = g.M.Machine in
    let a = c.args in
    let access = c.requires.access in
    let wide = sym c.narrow.ensures ∙ c.if-narrow.false in
    let aim : IsValidEvent (events.Aim c.number-number.result a.access.addr) = (omega arith, omega arith) in
    let valid : IsValidEvent (wide_event a.unit c.number-number.result a.access) = (record { unit_below = c.requires.unit; caller_below = omega arith }, access.rrid, access.shortest, access.longest) in
    submits_wide m.after m.reply a.caller.now c.call-2.new.self c.call-3.new.self a.unit c.number-number.result a.access c.call-2.result c.call-3.result
    c.call-2.ensures.call c.call-3.ensures.call c.number-number.ensures.number aim valid wide c.in-Aimed.is
