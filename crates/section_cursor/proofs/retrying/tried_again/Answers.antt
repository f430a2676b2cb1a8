-- After a try that counts down, the same event is awaited with one try fewer.
use Rattle.std.proofs.Common.{arith, sym}
use Rattle.section_cursor.proofs.Beginnings.{judging_again, polling_again, stage_judging_again}
use Rattle.section_cursor.proofs.retrying.tried_again.Goals as goal

pub returns-in-Judging-clause-rest : goal.returns-in-Judging-clause-rest
returns-in-Judging-clause-rest c = λ h caller cs slots event xs.
    let less = c.count_down.ensures.counted h in
    rw c.in-Judging.is (judging_again caller cs slots c.in-Judging.slot event _ c.in-Judging.left c.args.logged.now xs
    (omega (arith, less)) (sym (c.if-is_held.ensures)))

pub returns-in-Polling-clause-rest : goal.returns-in-Polling-clause-rest
returns-in-Polling-clause-rest c = λ h caller cs slots event xs.
    let less = c.count_down-in-Polling.ensures.counted h in
    rw c.in-Polling.is (polling_again caller cs slots event c.in-Polling.mask c.in-Polling.value _ c.in-Polling.left c.args.logged.now xs
    (omega (arith, less)) (sym (c.if-not-hits.ensures)))

pub returns-in-StageJudging-clause-rest : goal.returns-in-StageJudging-clause-rest
returns-in-StageJudging-clause-rest c = λ h caller cs slots event xs.
    let less = c.count_down-in-StageJudging.ensures.counted h in
    rw c.in-StageJudging.is (stage_judging_again caller cs slots event _ c.in-StageJudging.left c.in-StageJudging.chain c.args.logged.now xs
    (omega (arith, less)) (sym (c.if-is_held-2.ensures)))
