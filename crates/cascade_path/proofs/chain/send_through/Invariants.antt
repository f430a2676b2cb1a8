-- Each stage so far allowed.
use Rattle.std.proofs.Common.{◌<◌}
use Rattle.shared_log.specs.Callers.{IsCaller}
use Rattle.cascade_path.proofs.Passing.{Passing}
use Rattle.cascade_path.proofs.chain.send_through.Given as goal

abbrev pub invariant-loop-stage : goal.invariant-loop-stage
invariant-loop-stage g l =
    let m = g.M.Machine in
    Passing m.after m.reply l.initial.caller l.stages l.access l.tries l.stage l.requester l.caller × (0 < l.stage → IsCaller m.state m.next_place m.places m.after l.caller)
