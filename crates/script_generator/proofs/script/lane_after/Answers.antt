-- A transaction more.
use Rattle.std.proofs.Common.{◌≡◌, ◌++◌, [], ◌∷◌, ap, sym, ◌∙◌, arith}
use Rattle.std.proofs.lemmas.Grind.{common_steps}
use Rattle.event_words.specs.declared.section.Command.TheVariants.{Submit, Judge}
use Rattle.script_generator.specs.GeneratedScripts.{next_draw, drawn_access}
use Rattle.script_generator.proofs.GeneratorDraws.{draw_none, draw_next, more_commands, whole_lane}
use Rattle.script_generator.proofs.script.lane_after.Goals as goal

pub loop-slot-init : goal.loop-slot-init
loop-slot-init c = (sym (draw_none c.args.last.now), c.new-commands.ensures.items)

pub loop-slot-preserved : goal.loop-slot-preserved
loop-slot-preserved c =
    let pushed : c.push-in-loop-slot.new.self.items ≡ (c.loop-slot.commands.items ++ Submit 0 (drawn_access (next_draw c.loop-slot.last)) c.loop-slot.slot ∷ []) ++ Judge c.loop-slot.slot ∷ [] = grind (arith, common_steps) in (
      c.next_draw.ensures ∙ ap next_draw c.loop-slot.invariant.0 ∙ sym (draw_next c.args.last.now c.loop-slot.slot),
      pushed ∙ more_commands c.args.last.now c.loop-slot.slot c.loop-slot.last c.loop-slot.commands.items c.loop-slot.invariant.0 c.loop-slot.invariant.1,
    )

pub returns-clause-section : goal.returns-clause-section
returns-clause-section c = whole_lane 4096 c.args.last.now c.loop-slot.slot c.loop-slot.commands.items c.loop-slot.invariant.1 (omega arith)
