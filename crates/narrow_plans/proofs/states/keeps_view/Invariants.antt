-- the registers have the view, and what is left of the states decides
use Rattle.std.proofs.Common.{◌≡◌, drop}
use Rattle.policy_compiler.specs.Laws.{registers_after}
use Rattle.narrow_plans.specs.Views.{view_of}
use Rattle.narrow_plans.proofs.Along.{all_have}
use Rattle.narrow_plans.proofs.states.keeps_view.Given as goal

abbrev pub invariant-loop-write : goal.invariant-loop-write
invariant-loop-write l =
    (view_of l.regs l.rrid ≡ l.view.items)
    × (all_have l.rrid l.view.items l.regs (drop l.write-index l.writes) ≡ all_have l.rrid (view_of (registers_after l.image) l.rrid) (registers_after l.image) l.writes)
