use Rattle.std.proofs.Common.{sym, ap, subst, ◌∙◌}
use Rattle.event_words.specs.Sections.{IsValidSection}
use Rattle.update_planner.specs.Gives.{section_with}
use Rattle.update_planner.proofs.Images.{valid_between, images_given}
use Rattle.update_planner.proofs.planning.plan.Goals as goal

pub returns-clause-valid : goal.returns-clause-valid
returns-clause-valid c =
    let given = images_given _ c.in_ok-old_image.old_image c.in_ok-old_image.new_image _ _ c.in_ok-old_image.ensures.images in
    subst IsValidSection (sym (c.of.ensures ∙ ap section_with c.in_ok-commands.ensures))
    (valid_between c.args.new.now _ _ c.args.polls given.1 c.requires.new c.in_ok-old_image.ensures.new_fits c.requires.polls)
