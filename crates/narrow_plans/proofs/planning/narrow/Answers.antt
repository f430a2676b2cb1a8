use Rattle.std.proofs.Common.{sym, ap, subst, ◌∙◌}
use Rattle.event_words.specs.Sections.{IsValidSection}
use Rattle.update_planner.specs.Gives.{section_with}
use Rattle.update_planner.proofs.Images.{images_given}
use Rattle.narrow_plans.proofs.Commands.{image_valid, valid_narrow}
use Rattle.narrow_plans.proofs.planning.narrow.Goals as goal

pub commands-requires-clause-shape : goal.commands-requires-clause-shape
commands-requires-clause-shape c =
    let given = images_given _ c.in_ok-old_image.old_image c.in_ok-old_image.new_image _ _ c.in_ok-old_image.ensures.images in
    image_valid c.args.old.now _ given.0 c.requires.old

pub returns-clause-valid : goal.returns-clause-valid
returns-clause-valid c =
    let given = images_given _ c.in_ok-old_image.old_image c.in_ok-old_image.new_image _ _ c.in_ok-old_image.ensures.images in
    subst IsValidSection (sym (c.of.ensures ∙ ap section_with c.in_ok-commands.ensures.made))
    (valid_narrow c.args.old.now c.args.new.now _ _ c.args.polls given.0 given.1 c.requires.old c.requires.new c.in_ok-old_image.ensures.new_fits c.requires.polls)
