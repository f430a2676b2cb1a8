use Rattle.std.proofs.Common.{sym, ap, ◌∙◌, ◌++◌, ◌∷◌, []}
use Rattle.narrow_plans.proofs.Walks.{seen_taken, seen_left}
use Rattle.narrow_plans.proofs.views.add_run.Goals.{in-Some+in_ok-push, in_default}
use Rattle.narrow_plans.proofs.views.add_run.Goals as goal

pub loop-entry-preserved : goal.loop-entry-preserved
loop-entry-preserved c =
    let r = c.args.regs.now in
    let s = c.args.rrid in
    let n = c.loop-entry.entry in
    elim c.match-seen_entry.branch [
      | in-Some+in_ok-push w ↦ rw w.view-is (w.in_ok-push.ensures.items ∙ (ap (λ es. es ++ w.in-Some.seen ∷ []) c.loop-entry.invariant ∙ sym (seen_taken r s n w.in-Some.seen (sym c.seen_entry.ensures ∙ w.in-Some.is))))
      | in_default w ↦ rw w.view-is (c.loop-entry.invariant ∙ sym (seen_left r s n (sym c.seen_entry.ensures ∙ w.in_default.is)))
    ]
