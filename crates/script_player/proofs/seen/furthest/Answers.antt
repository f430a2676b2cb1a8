-- The one that was taken, or another of them.
use Rattle.std.proofs.Common.{◌∷◌, inr, sym, subst, Bor}
use Rattle.checker_workers.specs.Ports.{PortView}
use Rattle.script_player.specs.KeptReplies.{IsOneOf}
use Rattle.script_player.proofs.MergedReplies.{item_is_one}
use Rattle.script_player.proofs.seen.furthest.Goals.{then-place, else-place}
use Rattle.script_player.proofs.seen.furthest.Goals as goal

pub loop-caller-preserved : goal.loop-caller-preserved
loop-caller-preserved c =
    let first = c.args.first.now in
    let rest = c.args.rest.now in
    let item = c.caller-item.result in
    elim c.if-place.branch [
      | then-place w ↦ subst (λ (m : Bor PortView). IsOneOf m.now (first ∷ rest)) (sym w.most-is) (inr (item_is_one rest c.loop-caller.caller-index item c.loop-caller-test.true c.caller-item.is))
      | else-place w ↦ subst (λ (m : Bor PortView). IsOneOf m.now (first ∷ rest)) (sym w.most-is) c.loop-caller.invariant
    ]
