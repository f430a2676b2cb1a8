use Rattle.register_fields.proofs.Shapes.{IsTable_one}
use Rattle.register_fields.proofs.fields.from_zero.Goals as goal

pub sum_of-requires : goal.sum_of-requires
sum_of-requires c = rw c.field.ensures (IsTable_one _ _ c.requires)
