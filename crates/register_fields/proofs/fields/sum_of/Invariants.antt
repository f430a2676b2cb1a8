use Rattle.std.proofs.Common.{◌≡◌, ◌≤◌, sum_by, take}
use Rattle.event_words.specs.Guards.{field_bits}
use Rattle.register_fields.specs.Tables.{field_value}
use Rattle.register_fields.proofs.fields.sum_of.Given as goal

abbrev pub invariant-loop-field : goal.invariant-loop-field
invariant-loop-field l =
    (l.sum ≡ sum_by (field_value l.which) (take l.field-index l.fields)) × (l.sum ≤ sum_by field_bits (take l.field-index l.fields))
