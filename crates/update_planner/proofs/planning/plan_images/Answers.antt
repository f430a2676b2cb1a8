use Rattle.std.proofs.Common.{refl}
use Rattle.update_planner.proofs.Images.{unit_writes}
use Rattle.update_planner.proofs.planning.plan_images.Goals as goal

pub returns-clause-old_writes : goal.returns-clause-old_writes
returns-clause-old_writes c =
    unit_writes c.args.old.now c.args.new.now _ _ c.in_ok-old_image.ensures c.in_ok-new_image.ensures c.requires.old (c.in_default.ensures.old_fits refl) (c.in_default.ensures.same refl)

pub returns-clause-new_writes : goal.returns-clause-new_writes
returns-clause-new_writes c =
    unit_writes c.args.new.now c.args.new.now _ _ c.in_ok-new_image.ensures c.in_ok-new_image.ensures c.requires.new (c.in_default.ensures.new_fits refl) refl
