use Rattle.std.proofs.Common.{◌<◌, length, arith, sym, ◌∙◌}
use Rattle.narrow_plans.proofs.SameViews.{longer, differs_at, agrees_at}
use Rattle.narrow_plans.proofs.views.same_view.Goals as goal

pub returns-then-view-other : goal.returns-then-view-other
returns-then-view-other c = longer c.args.view.now c.args.other.now c.if-view-other.true

pub returns-then-not-same_entry : goal.returns-then-not-same_entry
returns-then-not-same_entry c =
    let inside : c.loop-i.i < length c.args.other.now = omega (arith, c.if-view-other.false) in
    differs_at c.args.view.now c.args.other.now c.loop-i.i _ _ c.loop-i-test.true inside (sym c.same_entry.ensures ∙ c.if-not-same_entry.true) ∙ c.loop-i.invariant

pub loop-i-preserved : goal.loop-i-preserved
loop-i-preserved c =
    let inside : c.loop-i.i < length c.args.other.now = omega (arith, c.if-view-other.false) in
    agrees_at c.args.view.now c.args.other.now c.loop-i.i _ _ c.loop-i-test.true inside (sym c.same_entry.ensures ∙ c.if-not-same_entry.false) ∙ c.loop-i.invariant
