-- A search over the entries of hardware domains, beside one over the policy's domains.
use Rattle.std.proofs.Common.{◌≡◌, ℕ, ◌+◌, ◌<◌, ◌≤◌, Bool, true, false, ◌&&◌, ◌||◌, ◌==◌, cond, List, [], ◌∷◌, length, Option, None, find, arith, refl, sym, ap, ◌∙◌, subst}
use Rattle.std.specs.List.{range_with_len, list_any, AllByRecursion}
use Rattle.std.specs.Option.{option_or}
use Rattle.std.proofs.lemmas.Bool.Decides.{nat_tests}
use Rattle.std.proofs.Math.Bool.{and-false}
use Rattle.std.proofs.lemmas.List.{nil_from_length}
use Rattle.event_words.specs.declared.access.Access.{Access}
use Rattle.event_words.specs.Registers.{Registers, has_bit}
use Rattle.event_words.specs.Decisions.{prio_count, is_touching, is_covering}
use Rattle.policy_compiler.specs.declared.policy.Rule.{Rule}
use Rattle.policy_compiler.specs.declared.read.rules.RuleKind.TheVariants.{Guards, Grants}
use Rattle.policy_compiler.specs.Policies.{DomainOf, AreRules}
use Rattle.policy_compiler.specs.Images.{HardwareOf, entries_of, is_empty, hardware_of, entry_count}
use Rattle.policy_compiler.specs.Fitting.{HasRules}
use Rattle.policy_compiler.specs.Decides.{rule_touches, rule_covers, allows, is_member, first_guard, any_grant}
use Rattle.policy_compiler.proofs.Finds.{find_range, any_range}
use Rattle.policy_compiler.proofs.Held.{Holds, run_of}
use Rattle.policy_compiler.proofs.RulesAt.{Related, related_or, when, find_rules, granting, cover_rules}

abbrev hardware_with : ℕ → List Rule → HardwareOf
hardware_with members us = record { members = members; entries = entries_of us }

-- a hardware domain in front of others, where there are rules
abbrev in_front : Bool → ℕ → List Rule → List HardwareOf → List HardwareOf
in_front e members us rest = cond e rest (hardware_with members us ∷ rest)

-- ---- guards

guard_or : (b : Bool) (x o : Option Rule) → cond b (option_or x o) o ≡ option_or (when b x) o
guard_or true x o = refl
guard_or false x o = refl

none_when : (b : Bool) (o : Option Rule) → option_or (when b None) o ≡ o
none_when true o = refl
none_when false o = refl

abbrev FindsRest : Registers → Access → List HardwareOf → Option Rule → Type 0
FindsRest r a rest o = (m i : ℕ) → Holds r m i rest → i + entry_count rest ≤ prio_count r → Related r a (find (is_touching r a) (range_with_len i (entry_count rest))) o

find_domain : (r : Registers) (a : Access) (m i : ℕ) (members : ℕ) (us : List Rule) (rest : List HardwareOf) (o : Option Rule) (e : Bool) → (length us == 0) ≡ e → 1 ≤ a.len → a.rrid < r.shape.rrids → AreRules us
    → Holds r m i (in_front e members us rest) → i + entry_count (in_front e members us rest) ≤ prio_count r → FindsRest r a rest o
    → Related r a (find (is_touching r a) (range_with_len i (entry_count (in_front e members us rest)))) (cond (has_bit members a.rrid) (option_or (find (rule_touches a) us) o) o)
find_domain r a m i members us rest o true e some known good held small ih =
    let z : length us ≡ 0 = grind (arith, nat_tests) in
    let x : cond (has_bit members a.rrid) (option_or (find (rule_touches a) us) o) o ≡ o =
    guard_or (has_bit members a.rrid) (find (rule_touches a) us) o ∙ (ap (λ vs. option_or (when (has_bit members a.rrid) (find (rule_touches a) vs)) o) (nil_from_length us z) ∙ none_when (has_bit members a.rrid) o) in
    subst (Related r a (find (is_touching r a) (range_with_len i (entry_count rest)))) (sym x) (ih m i held small)
find_domain r a m i members us rest o false e some known good held small ih =
    let run = run_of r m i (hardware_with members us) a known held.0 in
    let head = find_rules r a (has_bit members a.rrid) i us some good held.0.entries run (omega arith) in
    let tail = ih (m + 1) (i + length (entries_of us)) held.1 (omega arith) in
    let whole = related_or r a _ _ _ _ head tail in
    subst (λ q. Related r a q (cond (has_bit members a.rrid) (option_or (find (rule_touches a) us) o) o)) (sym (find_range (is_touching r a) i (length (entries_of us)) (entry_count rest)))
    (subst (Related r a _) (sym (guard_or (has_bit members a.rrid) (find (rule_touches a) us) o)) whole)

-- The first guard of the requester's domains that touches is the rule of the first entry that does.
pub find_domains : (r : Registers) (a : Access) (ds : List DomainOf) → 1 ≤ a.len → a.rrid < r.shape.rrids → AllByRecursion HasRules ds → FindsRest r a (hardware_of Guards ds) (first_guard (rule_touches a) a.rrid ds)
unfolding is_member
find_domains r a [] some known good m i held small = tt
find_domains r a (d ∷ ds) some known good m i held small =
    find_domain r a m i d.rrids d.guards (hardware_of Guards ds) (first_guard (rule_touches a) a.rrid ds) (is_empty d.guards) refl some known good.0.guards held small
    (find_domains r a ds some known good.1)

-- ---- grants

pub record CoversRest (r : Registers) (a : Access) (i n : ℕ) (covered allowed : Bool) : Type 0 where
  pub covered_is : list_any (is_covering r a) (range_with_len i n) ≡ covered
  pub allowed_is : list_any (granting r a) (range_with_len i n) ≡ allowed

abbrev CoversAfter : Registers → Access → List HardwareOf → Bool → Bool → Type 0
CoversAfter r a rest x y = (m i : ℕ) → Holds r m i rest → prio_count r ≤ i → CoversRest r a i (entry_count rest) x y

any_nil : (b : Bool) (q : Rule → Bool) (us : List Rule) → length us ≡ 0 → (b && list_any q us) ≡ false
any_nil b q us z = ap (λ vs. b && list_any q vs) (nil_from_length us z) ∙ and-false b

cover_domain : (r : Registers) (a : Access) (m i : ℕ) (members : ℕ) (us : List Rule) (rest : List HardwareOf) (x y : Bool) (e : Bool) → (length us == 0) ≡ e → 1 ≤ a.len → a.rrid < r.shape.rrids → AreRules us
    → Holds r m i (in_front e members us rest) → prio_count r ≤ i → CoversAfter r a rest x y
    → CoversRest r a i (entry_count (in_front e members us rest)) ((has_bit members a.rrid && list_any (rule_covers a) us) || x) ((has_bit members a.rrid && list_any (allows a) us) || y)
cover_domain r a m i members us rest x y true e some known good held past ih =
    let z : length us ≡ 0 = grind (arith, nat_tests) in
    let after = ih m i held past in
    record {
      covered_is = after.covered_is ∙ sym (ap (λ b. b || x) (any_nil (has_bit members a.rrid) (rule_covers a) us z));
      allowed_is = after.allowed_is ∙ sym (ap (λ b. b || y) (any_nil (has_bit members a.rrid) (allows a) us z));
    }
cover_domain r a m i members us rest x y false e some known good held past ih =
    let run = run_of r m i (hardware_with members us) a known held.0 in
    let head = cover_rules r a (has_bit members a.rrid) i us some good held.0.entries run past in
    let after = ih (m + 1) (i + length (entries_of us)) held.1 (omega arith) in
    record {
      covered_is = any_range (is_covering r a) i (length (entries_of us)) (entry_count rest) ∙ (ap (λ b. b || list_any (is_covering r a) (range_with_len (i + length (entries_of us)) (entry_count rest))) head.covered
          ∙ ap (λ b. (has_bit members a.rrid && list_any (rule_covers a) us) || b) after.covered_is);
      allowed_is = any_range (granting r a) i (length (entries_of us)) (entry_count rest) ∙ (ap (λ b. b || list_any (granting r a) (range_with_len (i + length (entries_of us)) (entry_count rest))) head.allowed
          ∙ ap (λ b. (has_bit members a.rrid && list_any (allows a) us) || b) after.allowed_is);
    }

-- Some grant of the requester's domains covers where an entry of theirs does, and the same with the right.
pub cover_domains : (r : Registers) (a : Access) (ds : List DomainOf) → 1 ≤ a.len → a.rrid < r.shape.rrids → AllByRecursion HasRules ds → CoversAfter r a (hardware_of Grants ds) (any_grant (rule_covers a) a.rrid ds) (any_grant (allows a) a.rrid ds)
unfolding is_member
cover_domains r a [] some known good m i held past = record { covered_is = refl; allowed_is = refl }
cover_domains r a (d ∷ ds) some known good m i held past =
    cover_domain r a m i d.rrids d.grants (hardware_of Grants ds) (any_grant (rule_covers a) a.rrid ds) (any_grant (allows a) a.rrid ds) (is_empty d.grants) refl some known good.0.grants held past
    (cover_domains r a ds some known good.1)
