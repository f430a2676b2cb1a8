-- The entries of one rule, beside the rule.
use Rattle.std.proofs.Common.{◌≡◌, ℕ, ◌+◌, ◌*◌, ◌/◌, ◌%◌, ◌^◌, ◌<◌, ◌≤◌, Bool, true, false, ◌==◌, eqb, [], ◌∷◌, arith, refl, ap, ◌∙◌}
use Rattle.event_words.specs.declared.access.Access.{Access}
use Rattle.event_words.specs.declared.access.Kind.{Kind}
use Rattle.event_words.specs.declared.access.Kind.TheVariants.{Read, Write, Fetch}
use Rattle.event_words.specs.declared.register.Register.TheVariants.{EntryCfg}
use Rattle.event_words.specs.Registers.{Registers, has_bit}
use Rattle.event_words.specs.Guards.{reg}
use Rattle.event_words.specs.Word.{kind_code}
use Rattle.event_words.specs.Entries.{touches, covers, is_byte_of, bytes_of, is_between}
use Rattle.event_words.proofs.ListItems.{any_alike, all_alike}
use Rattle.register_fields.specs.Rights.{rights_bits}
use Rattle.policy_compiler.specs.declared.policy.Rule.{Rule}
use Rattle.policy_compiler.specs.Policies.{IsRule, is_single}
use Rattle.policy_compiler.specs.Images.{single_entry, two_entries}
use Rattle.policy_compiler.specs.Decides.{rule_touches, rule_covers, rule_grants}
use Rattle.policy_compiler.proofs.EntryBytes.{off_bytes, tor_bytes, single_bytes}
use Rattle.policy_compiler.proofs.Finds.{any_never, all_never, never}
use Rattle.policy_compiler.proofs.Held.{HoldsEntries}

-- entry j is the rule: the same bytes, and the same right
pub record IsRuleEntry (r : Registers) (a : Access) (j : ℕ) (u : Rule) : Type 0 where
  pub touches : touches r j a ≡ rule_touches a u
  pub covers : covers r j a ≡ rule_covers a u
  pub right : has_bit (reg r (EntryCfg j)) (kind_code a.kind) ≡ rule_grants a u

pub record IsEmptyEntry (r : Registers) (a : Access) (j : ℕ) : Type 0 where
  pub touches : touches r j a ≡ false
  pub covers : covers r j a ≡ false

rule_entry : (r : Registers) (a : Access) (j : ℕ) (u : Rule) → ((x : ℕ) → is_byte_of r j x ≡ is_between u.from (u.from + u.size) x) → has_bit (reg r (EntryCfg j)) (kind_code a.kind) ≡ has_bit (rights_bits u.rights) (kind_code a.kind) → IsRuleEntry r a j u
unfolding rule_touches rule_covers rule_grants
rule_entry r a j u same e = record {
  touches = any_alike (is_byte_of r j) (is_between u.from (u.from + u.size)) same (bytes_of a);
  covers = all_alike (is_byte_of r j) (is_between u.from (u.from + u.size)) same (bytes_of a);
  right = e;
}

empty_entry : (r : Registers) (a : Access) (j : ℕ) → 1 ≤ a.len → ((x : ℕ) → is_byte_of r j x ≡ false) → IsEmptyEntry r a j
empty_entry r a j h none = record {
  touches = any_alike (is_byte_of r j) never none (bytes_of a) ∙ any_never (bytes_of a);
  covers = all_alike (is_byte_of r j) never none (bytes_of a) ∙ all_never a.addr a.len h;
}

-- the low three bits of a configuration are the rights
right_of : (k : Kind) (rights m cfg : ℕ) → rights < 8 → cfg ≡ rights + 8 * m → has_bit cfg (kind_code k) ≡ has_bit rights (kind_code k)
right_of k rights m cfg h e = elim k as (λ k. has_bit cfg (kind_code k) ≡ has_bit rights (kind_code k)) [
  | Read ↦ ap (λ n. eqb n 1) (let q : cfg / 2 ^ 0 % 2 ≡ rights / 2 ^ 0 % 2 = omega arith in q)
  | Write ↦ ap (λ n. eqb n 1) (let q : cfg / 2 ^ 1 % 2 ≡ rights / 2 ^ 1 % 2 = omega arith in q)
  | Fetch ↦ ap (λ n. eqb n 1) (let q : cfg / 2 ^ 2 % 2 ≡ rights / 2 ^ 2 % 2 = omega arith in q)
]

single_cfg : (b : Bool) (u : Rule) (cfg : ℕ) → (u.size == 4) ≡ b → cfg ≡ (single_entry u).cfg → (m : ℕ) × (cfg ≡ rights_bits u.rights + 8 * m)
single_cfg true u cfg e c = let d = rw e at c in let out : (m : ℕ) × (cfg ≡ rights_bits u.rights + 8 * m) = (2, omega arith) in out
single_cfg false u cfg e c = let d = rw e at c in let out : (m : ℕ) × (cfg ≡ rights_bits u.rights + 8 * m) = (3, omega arith) in out

pub single_held : (r : Registers) (a : Access) (i : ℕ) (u : Rule) → IsRule u → is_single u.from u.size ≡ true → HoldsEntries r i (single_entry u ∷ []) → IsRuleEntry r a i u
single_held r a i u h s p =
    let c = single_cfg (u.size == 4) u (reg r (EntryCfg i)) refl p.1 in
    rule_entry r a i u (λ x. single_bytes r i x u h s p.0 p.1) (right_of a.kind (rights_bits u.rights) c.0 (reg r (EntryCfg i)) h.rights c.1)

pub pair_held : (r : Registers) (a : Access) (i : ℕ) (u : Rule) → 1 ≤ a.len → IsRule u → HoldsEntries r i (two_entries u) → IsEmptyEntry r a i × IsRuleEntry r a (i + 1) u
pair_held r a i u some h p =
    let top : (u.from + u.size) % 4 ≡ 0 = omega (arith, h.from, h.size) in (
      empty_entry r a i some (λ x. off_bytes r i x p.1),
      rule_entry r a (i + 1) u (λ x. tor_bytes r i x u.from (u.from + u.size) (rights_bits u.rights) p.2.1 h.rights p.0 p.2.0 h.from top)
          (right_of a.kind (rights_bits u.rights) 1 (reg r (EntryCfg (i + 1))) h.rights p.2.1),
    )
