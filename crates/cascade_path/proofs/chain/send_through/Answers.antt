-- One stage more allowed, or answers for the whole chain.
use Rattle.std.proofs.Common.{◌≡◌, ◌≤◌, ◌+◌, ◌*◌, ℕ, length, get_or, subst, arith}
use Rattle.event_words.specs.declared.access.Access.{Access}
use Rattle.event_words.specs.Sections.{submission_events}
use Rattle.cascade_path.specs.declared.chain.ChainReply.{ChainReply}
use Rattle.cascade_path.specs.Stages.{PassesStage}
use Rattle.cascade_path.proofs.Making.{belongs_still}
use Rattle.cascade_path.proofs.Passing.{passing_none, passing_more, passing_ended, passing_end, room_left, not_allowed, no_next}
use Rattle.cascade_path.proofs.chain.send_through.Goals as goal

pub loop-stage-init : goal.loop-stage-init
loop-stage-init g c =
    let m = g.M.Machine in
    (passing_none m.after m.reply c.args.caller.now c.args.stages.now c.args.access c.args.tries c.requires.access.rrid, λ h. absurd (omega arith))

pub pass_stage-requires-clause-belongs : goal.pass_stage-requires-clause-belongs
pass_stage-requires-clause-belongs g c =
    let m = g.M.Machine in
    let b = c.loop-stage.invariant.0 in
    belongs_still m.after m.reply c.args.caller.now c.loop-stage.caller b.made c.args.shared.now b.adds c.requires.belongs

pub pass_stage-requires-clause-left : goal.pass_stage-requires-clause-left
pass_stage-requires-clause-left g c =
    let b = c.loop-stage.invariant.0 in
    let n : ℕ = submission_events c.args.access + c.args.tries in
    let few : length b.made ≤ c.loop-stage.stage * n = b.few in
    let left : c.loop-stage.caller.left + length b.made ≡ c.args.caller.now.left = b.adds.left in
    let all : length c.args.stages.now * n ≤ c.args.caller.now.left = c.requires.left in
    let room : c.loop-stage.stage * n + n ≤ length c.args.stages.now * n = room_left c.loop-stage.stage (length c.args.stages.now) n c.loop-stage-test.true in
    omega arith

pub pass_stage-requires-clause-access : goal.pass_stage-requires-clause-access
pass_stage-requires-clause-access g c =
    let a = c.requires.access in
    let small = c.loop-stage.invariant.0.small in
    record { rrid = omega arith; shortest = a.shortest; longest = a.longest; below_end = a.below_end }

pub returns-in_default : goal.returns-in_default
returns-in_default g c =
    let m = g.M.Machine in
    record {
      sends = passing_ended m.after m.reply c.args.caller.now c.loop-stage.caller c.pass_stage.new.caller c.args.stages.now c.args.access c.args.tries c.loop-stage.stage c.loop-stage.requester c.pass_stage.result
          c.loop-stage.invariant.0 c.loop-stage-test.true c.pass_stage.ensures.passes (not_allowed c.pass_stage.result c.in_default.not-Allowed) (no_next c.pass_stage.result c.in_default.not-Allowed);
      caller = c.pass_stage.ensures.caller;
    }

pub loop-stage-preserved : goal.loop-stage-preserved
loop-stage-preserved g c =
    let m = g.M.Machine in
    let borne : Access = record c.args.access { rrid = c.loop-stage.requester } in
    let allowed = subst (λ (a : ChainReply). PassesStage m.after m.reply c.loop-stage.caller c.loop-stage.stage (get_or c.args.stages.now c.loop-stage.stage 0) borne c.args.tries a c.pass_stage.new.caller) c.in-Allowed.is c.pass_stage.ensures.passes in (
      passing_more m.after m.reply c.args.caller.now c.loop-stage.caller c.pass_stage.new.caller c.args.stages.now c.args.access c.args.tries c.loop-stage.stage c.loop-stage.requester c.in-Allowed.next
          c.loop-stage.invariant.0 c.loop-stage-test.true (c.pass_stage.ensures.next c.in-Allowed.next c.in-Allowed.is) allowed,
      λ h. c.pass_stage.ensures.caller,
    )

pub returns-clause-sends : goal.returns-clause-sends
returns-clause-sends g c =
    let m = g.M.Machine in
    passing_end m.after m.reply c.args.caller.now c.loop-stage.caller c.args.stages.now c.args.access c.args.tries c.loop-stage.stage c.loop-stage.requester c.loop-stage.invariant.0 (omega arith) (omega arith) c.requires.stages.0

pub returns-clause-caller : goal.returns-clause-caller
returns-clause-caller g c = let some = c.requires.stages.0 in c.loop-stage.invariant.1 (omega arith)
