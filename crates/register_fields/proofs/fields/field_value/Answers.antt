use Rattle.std.proofs.Common.{arith}
use Rattle.register_fields.proofs.Shifts.{moved_below, moved_whole, moved_le}
use Rattle.register_fields.proofs.fields.field_value.Goals as goal

pub overflow_cast-result-2 : goal.overflow_cast-result-2
overflow_cast-result-2 c =
    let f = c.args.field.now in
    let below = moved_below c.number_of.result f.width f.low c.number_of.ensures.small c.requires.inside in
    let whole = moved_whole c.number_of.result f.width f.low c.number_of.ensures.small c.requires.inside in
    omega arith

pub returns-clause-bound : goal.returns-clause-bound
returns-clause-bound c =
    let f = c.args.field.now in
    let whole = moved_whole c.number_of.result f.width f.low c.number_of.ensures.small c.requires.inside in
    let le = moved_le c.number_of.result f.width f.low c.number_of.ensures.small in
    omega arith

pub returns-clause-value : goal.returns-clause-value
returns-clause-value c =
    let f = c.args.field.now in
    let whole = moved_whole c.number_of.result f.width f.low c.number_of.ensures.small c.requires.inside in
    cc
