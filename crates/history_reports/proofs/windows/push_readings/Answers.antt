-- One event's line more, up to the last.
use Rattle.std.proofs.Common.{arith, refl}
use Rattle.history_reports.proofs.WindowPlaces.{one_more, all_written}
use Rattle.history_reports.proofs.windows.push_readings.Goals as goal

pub loop-logged-preserved : goal.loop-logged-preserved
loop-logged-preserved c = λ shapes words all is first.
    one_more c.law_verdicts.ensures shapes words all c.args.events.now c.loop-logged.logged-index c.requester-rrid.result _ _ c.loop-logged.monitor c.step-shown.new.self c.step-shown.result
    c.args.out.now.items c.loop-logged.out.items c.push_reading.new.out.items is c.loop-logged-test.true refl c.requester-rrid.ensures c.step-shown.ensures.seen c.step-shown.ensures.shown
    (c.loop-logged.invariant shapes words all is first) c.in_ok-push_reading.ensures

pub returns : goal.returns
returns c = λ shapes words all is first.
    all_written shapes words all c.args.events.now c.loop-logged.logged-index c.loop-logged.monitor c.loop-logged.out.items c.args.out.now.items is (omega arith) c.loop-logged-test.false
    (c.loop-logged.invariant shapes words all is first)
