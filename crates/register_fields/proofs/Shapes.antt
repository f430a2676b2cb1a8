-- The fields of the registers lie apart and within a word.
use Rattle.std.proofs.Common.{ℕ, ◌^◌, ◌≤◌, [], ◌∷◌, arith}
use Rattle.std.proofs.Math.Pow.{pow_mono}
use Rattle.event_words.specs.declared.register.Rule.{Rule}
use Rattle.event_words.specs.declared.register.Rule.TheVariants.{ReadOnly, SetOnly, ClearOnly}
use Rattle.event_words.specs.Registers.{field}
use Rattle.register_fields.specs.Tables.{IsTable}

-- the fields of the first configuration register lie apart
pub IsTable_hwcfg0 : (domains mdcfg srcmd sps transl k : ℕ) (rule : Rule) → domains ≤ 63 → mdcfg ≤ 2 → srcmd ≤ 2 → sps ≤ 1 → transl ≤ 1 → k ≤ 127
    → IsTable (field 0 1 SetOnly 0 ∷ field 1 6 ReadOnly domains ∷ field 7 2 ReadOnly mdcfg ∷ field 9 2 ReadOnly srcmd ∷ field 11 1 ReadOnly sps ∷ field 12 1 ReadOnly transl ∷ field 13 1 ClearOnly 1 ∷ field 17 7 rule k ∷ [])
IsTable_hwcfg0 domains mdcfg srcmd sps transl k rule d m s p t kk = record {
  each = (record { inside = omega arith; reset = omega arith }, (record { inside = omega arith; reset = omega arith }, (record { inside = omega arith; reset = omega arith }, (record { inside = omega arith; reset = omega arith }, (record { inside = omega arith; reset = omega arith }, (record { inside = omega arith; reset = omega arith }, (record { inside = omega arith; reset = omega arith }, (record { inside = omega arith; reset = omega arith }, tt))))))));
  apart = omega arith;
}

-- so does one field that begins at bit 0
pub IsTable_one : (width : ℕ) (rule : Rule) → width ≤ 32 → IsTable (field 0 width rule 0 ∷ [])
IsTable_one width rule h =
    let p : 2 ^ width ≤ 2 ^ 32 = pow_mono {i = width} {j = 32} h in
    let q : 2 ^ 0 ≤ 2 ^ width = pow_mono {i = 0} {j = width} (omega arith) in
    record { each = (record { inside = omega arith; reset = omega arith }, tt); apart = omega arith }

-- one that begins at bit 1
pub IsTable_upper : (width : ℕ) (rule : Rule) → width ≤ 31 → IsTable (field 1 width rule 0 ∷ [])
IsTable_upper width rule h =
    let p : 2 ^ width ≤ 2 ^ 31 = pow_mono {i = width} {j = 31} h in
    let q : 2 ^ 0 ≤ 2 ^ width = pow_mono {i = 0} {j = width} (omega arith) in
    record { each = (record { inside = omega arith; reset = omega arith }, tt); apart = omega arith }
