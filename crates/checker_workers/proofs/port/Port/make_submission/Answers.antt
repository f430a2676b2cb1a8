-- An access is submitted by one event, or by an aim and a second event.
use Rattle.std.proofs.Common.{sym, ◌∙◌, arith}
use Rattle.checker_workers.proofs.Submitting.{submits_narrow, submits_wide}
use Rattle.checker_workers.proofs.port.Port.make_submission.Goals as goal

pub returns-then-narrow : goal.returns-then-narrow
returns-then-narrow c =
    let n = c.number-caller.ensures in
    let s = submits_narrow c.args.self.now c.make.new.self c.args.unit c.number-caller.result c.args.access c.make.result c.make.ensures.event n.number c.requires.unit (sym c.narrow.ensures ∙ c.if-narrow.true) in
    record { event = s.event; reply = s.reply; some = s.some; unit = let u = c.requires.unit in let m = n.units in omega arith }

pub returns : goal.returns
returns c =
    let n = c.number-caller.ensures in
    let last = c.submit_aimed.ensures in
    let s = submits_wide c.args.self.now c.aim.new.self c.submit_aimed.new.self c.args.unit c.args.access c.submit_aimed.result c.aim.ensures last.event last.number c.requires.unit (sym c.narrow.ensures ∙ c.if-narrow.false)
    c.requires.access.below_end last.reset in
    record { event = s.event; reply = s.reply; some = s.some; unit = let u = c.requires.unit in let m = n.units in omega arith }
