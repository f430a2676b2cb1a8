use Rattle.std.proofs.Common.{[], ◌∷◌, ◌++◌, not, ap, sym, ◌∙◌}
use Rattle.std.proofs.lemmas.List.{append_assoc}
use Rattle.narrow_plans.specs.NarrowPlans.{stall_command}
use Rattle.narrow_plans.specs.Stalls.{stalls}
use Rattle.narrow_plans.proofs.Commands.{one_stalled, none_stalled}
use Rattle.narrow_plans.proofs.planning.stall_affected.Goals.{then-not-same+in_ok-stall, else-not-same}
use Rattle.narrow_plans.proofs.planning.stall_affected.Goals as goal

pub loop-rrid-preserved : goal.loop-rrid-preserved
loop-rrid-preserved c =
    let old = c.args.old.now in
    let ws = c.args.writes.now in
    let s = c.loop-rrid.rrid in
    let before = c.args.commands.now.items in
    elim c.if-not-same.branch [
      | then-not-same+in_ok-stall w ↦
          (let one = one_stalled old ws s (c.in-Ok.ensures ∙ ap not w.if-not-same.true) in
          rw w.commands-is (w.in_ok-stall.ensures
          ∙ (ap (λ xs. xs ++ stall_command s ∷ []) c.loop-rrid.invariant
          ∙ (append_assoc before (stalls old ws s) (stall_command s ∷ []) ∙ ap (λ xs. before ++ xs) (sym one)))))
      | else-not-same w ↦ rw w.commands-is (c.loop-rrid.invariant ∙ ap (λ xs. before ++ xs) (sym (none_stalled old ws s (c.in-Ok.ensures ∙ ap not w.if-not-same.false))))
    ]
