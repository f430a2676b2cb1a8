use Rattle.std.proofs.Common.{◌%◌, None, ap, sym, ◌∙◌}
use Rattle.narrow_plans.proofs.Walks.{seen_own, seen_is}
use Rattle.narrow_plans.proofs.views.seen_entry.Goals as goal

pub returns-in_err-range : goal.returns-in_err-range
returns-in_err-range c =
    c.from_residual.ensures ∙ sym (seen_own c.args.regs.now c.args.rrid c.args.domain c.args.entry None c.requires.owner c.requires.own c.in_err-range.ensures)

pub returns : goal.returns
returns c =
    seen_is c.args.regs.now c.args.rrid c.args.domain c.args.entry _ c.in_ok-range.range _ _ _ c.requires.owner c.requires.own c.in_ok-range.ensures (ap (λ w. w % 65536) c.word-priority_entries.ensures.value) c.granted.ensures c.granted-2.ensures c.granted-3.ensures
