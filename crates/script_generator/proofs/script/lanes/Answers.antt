-- A lane more.
use Rattle.std.proofs.Common.{◌≡◌, ◌+◌, ◌*◌, ◌++◌, [], ◌∷◌, ap, sym, ◌∙◌, arith}
use Rattle.std.proofs.lemmas.Grind.{common_steps}
use Rattle.script_generator.specs.GeneratedScripts.{draw}
use Rattle.script_generator.proofs.GeneratorDraws.{draw_none, draw_on, more_lanes}
use Rattle.script_generator.proofs.script.lanes.Goals as goal

pub loop-lane-init : goal.loop-lane-init
loop-lane-init c = (sym (draw_none c.args.number), c.new-lanes.ensures.items)

pub loop-lane-preserved : goal.loop-lane-preserved
loop-lane-preserved c =
    let pushed : c.push.new.self.items ≡ c.loop-lane.lanes.items ++ c.in_ok-lane.lane ∷ [] = grind (arith, common_steps) in
    let next : c.loop-lane._lane * 4096 + 4096 ≡ (c.loop-lane._lane + 1) * 4096 = omega arith in (
      c.in_ok-lane.ensures.last ∙ ap (λ x. draw x 4096) c.loop-lane.invariant.0 ∙ draw_on c.args.number (c.loop-lane._lane * 4096) 4096 ∙ ap (draw c.args.number) next,
      pushed ∙ more_lanes c.args.number c.loop-lane._lane c.loop-lane.last c.loop-lane.lanes.items c.in_ok-lane.lane c.loop-lane.invariant.0 c.in_ok-lane.ensures.section c.loop-lane.invariant.1,
    )
