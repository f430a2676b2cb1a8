-- Sums over the fields of a register, and fields that fit a word.
use Rattle.std.specs.Prelude.{ℕ, ◌+◌, ◌^◌, ◌<◌, ◌≤◌, List, sum_by}
use Rattle.std.specs.List.{AllByRecursion}
use Rattle.event_words.specs.declared.register.Field.{Field}
use Rattle.event_words.specs.Registers.{ruled_field, reset_field}
use Rattle.event_words.specs.Guards.{field_bits, read_only_bits}
use Rattle.register_fields.specs.declared.fields.FieldValue.{FieldValue}
use Rattle.register_fields.specs.declared.fields.FieldValue.TheVariants.{Ruled, Reset, Whole, ReadOnly}

-- what a field adds to a word
abbrev pub field_value : FieldValue → Field → ℕ
field_value (Ruled old new) = ruled_field old new
field_value Reset = reset_field
field_value Whole = field_bits
field_value ReadOnly = read_only_bits

pub record IsField (f : Field) : Type 0 where
  pub inside : f.low + f.width ≤ 32
  pub reset : f.reset < 2 ^ f.width

-- The fields lie in a word and are apart.
pub record IsTable (fields : List Field) : Type 0 where
  pub each : AllByRecursion IsField fields
  pub apart : sum_by field_bits fields < 2 ^ 32
