use Rattle.register_fields.proofs.Shapes.{IsTable_upper}
use Rattle.register_fields.proofs.fields.from_one.Goals as goal

pub sum_of-requires : goal.sum_of-requires
sum_of-requires c = rw c.field.ensures (IsTable_upper _ _ c.requires)
