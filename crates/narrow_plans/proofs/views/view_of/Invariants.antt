-- what the entries before `from` give
use Rattle.std.proofs.Common.{◌≡◌, ◌≤◌}
use Rattle.mdcfg_formats.proofs.Runs.{IsStart}
use Rattle.narrow_plans.specs.Seen.{seen_below}
use Rattle.narrow_plans.proofs.views.view_of.Given as goal

abbrev pub invariant-loop-domain : goal.invariant-loop-domain
invariant-loop-domain l =
    (l.from ≤ l.regs.shape.entries) × IsStart l.regs l.regs.shape.entries l.domain l.from × (l.view.items ≡ seen_below l.regs l.rrid l.from)
