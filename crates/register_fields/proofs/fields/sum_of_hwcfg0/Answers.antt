use Rattle.std.proofs.Common.{arith}
use Rattle.register_fields.proofs.Shapes.{IsTable_hwcfg0}
use Rattle.register_fields.proofs.fields.sum_of_hwcfg0.Goals as goal

pub sum_of-requires : goal.sum_of-requires
sum_of-requires c =
    simp (c.field.ensures, c.field-2.ensures, c.field-3.ensures, c.field-4.ensures, c.field-5.ensures, c.field-6.ensures, c.field-7.ensures, c.field-8.ensures)
    (IsTable_hwcfg0 _ _ _ _ _ _ _ (omega arith) (omega arith) (omega arith) (grind arith) (grind arith) (omega arith))
