use Rattle.std.proofs.Common.{◌≡◌, true, false, ap, sym, ◌∙◌}
use Rattle.narrow_plans.specs.Unaffected.{has_view}
use Rattle.narrow_plans.proofs.Along.{write_differs, write_agrees, writes_end}
use Rattle.narrow_plans.proofs.states.keeps_view.Goals as goal

pub returns-then-not-same : goal.returns-then-not-same
returns-then-not-same c =
    let s = c.args.rrid in
    let view = c.in-Ok.view.items in
    let q = c.write_keeps_view.new.regs in
    let made = c.in-Ok-write_keeps_view.ensures in
    let differs : false ≡ has_view s view q = sym c.if-not-same.true ∙ (made.value ∙ ap (λ v. has_view s v q) c.deref.ensures.value) in
    write_differs c.loop-write.regs q s view c.args.writes.now c.loop-write.write-index _ c.loop-write-test.true c.loop-write.invariant.0 made.regs differs _ c.loop-write.invariant.1

pub loop-write-preserved : goal.loop-write-preserved
loop-write-preserved c =
    let s = c.args.rrid in
    let view = c.in-Ok.view.items in
    let q = c.write_keeps_view.new.regs in
    let made = c.in-Ok-write_keeps_view.ensures in
    let same : has_view s view q ≡ true = ap (λ v. has_view s v q) (sym c.deref.ensures.value) ∙ (sym made.value ∙ c.if-not-same.false) in
    write_agrees c.loop-write.regs q s view c.args.writes.now c.loop-write.write-index _ c.loop-write-test.true c.loop-write.invariant.0 made.regs same _ c.loop-write.invariant.1

pub returns : goal.returns
returns c =
    writes_end c.loop-write.regs c.args.rrid c.in-Ok.view.items c.args.writes.now c.loop-write.write-index c.loop-write-test.false c.loop-write.invariant.0 _ c.loop-write.invariant.1
