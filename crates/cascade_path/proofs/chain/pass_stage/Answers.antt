-- What a stage answers after its submission, whichever reply that had.
use Rattle.std.proofs.Common.{◌-◌, refl, ap, subst}
use Rattle.std.specs.Prelude.{Result}
use Rattle.event_words.specs.declared.reply.Reply.{Reply}
use Rattle.event_words.specs.Records.{is_taken}
use Rattle.cascade_path.specs.declared.chain.ChainReply.{ChainReply}
use Rattle.cascade_path.specs.declared.chain.ChainReply.TheVariants as answers
use Rattle.cascade_path.specs.Answers.{submission_answer}
use Rattle.cascade_path.specs.Stages.{SubmitsOrMisses}
use Rattle.cascade_path.proofs.Stages.{passes_unaimed, passes_refused, passes_judged, refused_reply, odd_answer}
use Rattle.cascade_path.proofs.chain.pass_stage.Goals as goal

pub returns-in-Err-clause-passes : goal.returns-in-Err-clause-passes
returns-in-Err-clause-passes g c =
    let m = g.M.Machine in
    let a = c.args in
    let missed = subst (λ (x : Result Reply ChainReply). SubmitsOrMisses m.after m.reply a.caller.now a.stage a.unit a.access x c.submit.new.caller) c.in-Err.is c.submit.ensures.submits in
    passes_unaimed m.after m.reply a.caller.now c.submit.new.caller a.stage a.unit a.access a.tries c.in-Err.odd missed

pub returns-in-Passed-clause-passes : goal.returns-in-Passed-clause-passes
returns-in-Passed-clause-passes g c =
    let m = g.M.Machine in
    let a = c.args in
    let submits = subst (λ (x : Result Reply ChainReply). SubmitsOrMisses m.after m.reply a.caller.now a.stage a.unit a.access x c.submit.new.caller) c.in-Ok.is c.submit.ensures.submits in
    passes_judged m.after m.reply a.caller.now c.submit.new.caller c.judge_until-last.new.caller a.stage a.unit a.access a.tries (c.place-place.result - 1) c.place-place.result c.in-Ok.reply c.judge_until-last.result c.judgement_answer.result
    submits c.in-Passed.is c.place-place.ensures.place refl c.judge_until-last.ensures.judges c.judgement_answer.ensures

pub returns-in-Busy-clause-passes : goal.returns-in-Busy-clause-passes
returns-in-Busy-clause-passes g c =
    let m = g.M.Machine in
    let a = c.args in
    let submits = subst (λ (x : Result Reply ChainReply). SubmitsOrMisses m.after m.reply a.caller.now a.stage a.unit a.access x c.submit.new.caller) c.in-Ok.is c.submit.ensures.submits in
    passes_refused m.after m.reply a.caller.now c.submit.new.caller a.stage a.unit a.access a.tries c.in-Ok.reply (answers.Busy a.stage)
    submits (ap is_taken c.in-Busy.is) (ap (submission_answer a.stage) c.in-Busy.is) refl

pub returns-in-Stalled-clause-passes : goal.returns-in-Stalled-clause-passes
returns-in-Stalled-clause-passes g c =
    let m = g.M.Machine in
    let a = c.args in
    let submits = subst (λ (x : Result Reply ChainReply). SubmitsOrMisses m.after m.reply a.caller.now a.stage a.unit a.access x c.submit.new.caller) c.in-Ok.is c.submit.ensures.submits in
    passes_refused m.after m.reply a.caller.now c.submit.new.caller a.stage a.unit a.access a.tries c.in-Ok.reply (answers.Denied a.stage c.in-Stalled.denial)
    submits (ap is_taken c.in-Stalled.is) (ap (submission_answer a.stage) c.in-Stalled.is) refl

pub returns-in_default-clause-passes : goal.returns-in_default-clause-passes
returns-in_default-clause-passes g c =
    let m = g.M.Machine in
    let a = c.args in
    let d = c.in_default in
    let submits = subst (λ (x : Result Reply ChainReply). SubmitsOrMisses m.after m.reply a.caller.now a.stage a.unit a.access x c.submit.new.caller) c.in-Ok.is c.submit.ensures.submits in
    passes_refused m.after m.reply a.caller.now c.submit.new.caller a.stage a.unit a.access a.tries c.in-Ok.reply (answers.Odd a.stage c.in-Ok.reply)
    submits (refused_reply c.in-Ok.reply d.not-Passed d.not-Queued) (odd_answer a.stage c.in-Ok.reply d.not-Passed d.not-Queued d.not-Busy d.not-Stalled) refl
