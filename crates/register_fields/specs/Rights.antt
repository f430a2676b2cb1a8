-- A set of rights is seen as its bits: 1 to read, 2 to write, 4 to fetch.
use Rattle.std.specs.Prelude.{ℕ}
use Rattle.register_fields.specs.declared.rights.Rights.{Rights}

abbrev pub rights_bits : Rights → ℕ
rights_bits rights = rights.0
