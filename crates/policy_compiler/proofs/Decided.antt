-- Registers that hold a policy's hardware domains decide as the policy does.
use Rattle.std.proofs.Common.{◌≡◌, ℕ, ◌+◌, ◌-◌, ◌<◌, ◌≤◌, Bool, true, false, not, ◌&&◌, ◌||◌, ltb, cond, List, [], ◌∷◌, length, Option, Some, None, find, arith, refl, sym, ap, ◌∙◌, subst}
use Rattle.std.specs.List.{range_with_len, list_any}
use Rattle.std.specs.Option.{option_or}
use Rattle.std.proofs.lemmas.Bool.{ltb-true}
use Rattle.std.proofs.lemmas.Bool.Decides.{nat_tests}
use Rattle.std.proofs.Math.Bool.{and-false, or-false}
use Rattle.event_words.specs.declared.access.Access.{Access}
use Rattle.event_words.specs.declared.shape.Shape.{Shape}
use Rattle.event_words.specs.declared.reply.Decision.TheVariants.{Allowed}
use Rattle.event_words.specs.Registers.{Registers}
use Rattle.event_words.specs.Guards.{is_enabled}
use Rattle.event_words.specs.Valid.{IsValidAccess}
use Rattle.event_words.specs.Domains.{owner_of, is_known, is_associated}
use Rattle.event_words.specs.Entries.{covers}
use Rattle.event_words.specs.Decisions.{prio_count, is_entry_of, owned_by, entry_grants, is_touching, is_covering, entries, first_touching, covering, decision, decide_by_hit, by_covering, illegal, violation}
use Rattle.event_words.proofs.Ranges.{find_none, none_any}
use Rattle.policy_compiler.specs.declared.policy.Rule.{Rule}
use Rattle.policy_compiler.specs.declared.read.rules.RuleKind.TheVariants.{Guards, Grants}
use Rattle.policy_compiler.specs.Policies.{DomainOf, PolicyOf, IsPolicy}
use Rattle.policy_compiler.specs.Images.{hardware_of, hardware, entry_count}
use Rattle.policy_compiler.specs.Laws.{kind_of}
use Rattle.policy_compiler.specs.Decides.{rule_touches, rule_covers, allows, first_guard, any_grant, illegal_kind, guard_kind, grants_kind, kind_by, policy_decision}
use Rattle.policy_compiler.proofs.Finds.{find_range, any_range, any_filter, some_filter, is_some_list}
use Rattle.policy_compiler.proofs.Fits.{domains_have_rules, count_append}
use Rattle.policy_compiler.proofs.Held.{Holds, holds_split}
use Rattle.policy_compiler.proofs.RulesAt.{Related, related_or, granting}
use Rattle.policy_compiler.proofs.DomainsAt.{find_domains, cover_domains}

-- the registers of a compiled policy
pub record IsCompiled (r : Registers) (p : PolicyOf) : Type 0 where
  pub shape : r.shape ≡ p.shape
  pub enabled : is_enabled r ≡ true
  pub prio : prio_count r ≡ entry_count (hardware_of Guards p.domains)
  pub holds : Holds r 0 0 (hardware p.domains)
  pub unowned : (j : ℕ) → entry_count (hardware p.domains) ≤ j → owner_of r j ≡ None
  pub fits : entry_count (hardware p.domains) ≤ r.shape.entries

-- ---- kinds

covering_kind : (r : Registers) (a : Access) (xs : List ℕ) → kind_of (by_covering r a xs) ≡ cond (list_any (entry_grants r a.rrid a.kind) xs) 0 (cond (is_some_list xs) (illegal_kind a) 5)
covering_kind r a [] = refl
covering_kind r a (j ∷ js) = by_any (list_any (entry_grants r a.rrid a.kind) (j ∷ js))
  where
    by_any : (b : Bool) → kind_of (cond b Allowed (illegal r a j (j ∷ js))) ≡ cond b 0 (illegal_kind a)
    by_any true = refl
    by_any false = refl

touching_kind : (r : Registers) (a : Access) (j : ℕ) (c g : Bool) → kind_of (cond (not c) (violation 4 j) (cond g Allowed (illegal r a j (j ∷ [])))) ≡ cond (not c) 4 (cond g 0 (illegal_kind a))
touching_kind r a j false g = refl
touching_kind r a j true true = refl
touching_kind r a j true false = refl

kind_related : (r : Registers) (a : Access) (ds : List DomainOf) (o : Option ℕ) (x : Option Rule) → Related r a o x → kind_of (by_covering r a (covering r a)) ≡ grants_kind a ds → kind_of (decide_by_hit r a o) ≡ kind_by a ds x
unfolding guard_kind
kind_related r a ds None None h e = e
kind_related r a ds None (Some u) h e = absurd h
kind_related r a ds (Some j) None h e = absurd h
kind_related r a ds (Some j) (Some u) h e =
    touching_kind r a j (covers r j a) (entry_grants r a.rrid a.kind j)
    ∙ (ap (λ c. cond (not c) 4 (cond (entry_grants r a.rrid a.kind j) 0 (illegal_kind a))) h.covers
    ∙ ap (λ g. cond (not (rule_covers a u)) 4 (cond g 0 (illegal_kind a))) h.grants)

-- ---- all entries: guards', grants', and those of nobody

before_grants : (r : Registers) (a : Access) (j : ℕ) → j < prio_count r → is_covering r a j ≡ false
before_grants r a j h = let t : ltb j (prio_count r) ≡ true = search (nat_tests, arith) in rw t refl

after_guards : (r : Registers) (a : Access) (j : ℕ) → prio_count r ≤ j → is_touching r a j ≡ false
after_guards r a j h = let t : ltb j (prio_count r) ≡ false = search (nat_tests, arith) in rw t refl

of_nobody : (r : Registers) (a : Access) (j : ℕ) → owner_of r j ≡ None → is_covering r a j ≡ false
of_nobody r a j e =
    let o : is_entry_of r a.rrid j ≡ false = ap (owned_by (is_associated r a.rrid)) e in
    ap (λ b. not (ltb j (prio_count r)) && (b && covers r j a)) o ∙ and-false (not (ltb j (prio_count r)))

or_none : (o : Option Rule) → option_or o None ≡ o
or_none None = refl
or_none (Some u) = refl

find_all : (r : Registers) (a : Access) (g rest : ℕ) (x : Option Rule) → g ≡ prio_count r → Related r a (find (is_touching r a) (range_with_len 0 g)) x → Related r a (find (is_touching r a) (range_with_len 0 (g + rest))) x
find_all r a g rest x e h =
    let none = find_none (is_touching r a) (0 + g) rest (λ j l u. after_guards r a j (omega arith)) in
    let whole = related_or r a _ None x None h tt in
    let split = find_range (is_touching r a) 0 g rest ∙ ap (option_or (find (is_touching r a) (range_with_len 0 g))) none in
    subst (λ q. Related r a q x) (sym split) (subst (Related r a _) (or_none x) whole)

any_all : (p : ℕ → Bool) (g c rest : ℕ) (x : Bool) → ((j : ℕ) → j < g → p j ≡ false) → list_any p (range_with_len g c) ≡ x → ((j : ℕ) → g + c ≤ j → p j ≡ false) → list_any p (range_with_len 0 (g + (c + rest))) ≡ x
any_all p g c rest x low e high =
    let zero_g : 0 + g ≡ g = omega arith in
    let first = none_any p 0 g (λ j l u. low j (omega arith)) in
    let last = none_any p (g + c) rest (λ j l u. high j l) in
    any_range p 0 g (c + rest)
    ∙ (ap (λ b. b || list_any p (range_with_len (0 + g) (c + rest))) first
    ∙ (ap (λ k. list_any p (range_with_len k (c + rest))) zero_g
    ∙ (any_range p g c rest
    ∙ (ap (λ b. b || list_any p (range_with_len (g + c) rest)) e
    ∙ (ap (λ b. x || b) last ∙ or-false x)))))

granting_none : (r : Registers) (a : Access) (j : ℕ) → is_covering r a j ≡ false → granting r a j ≡ false
granting_none r a j e = rw e refl

grants_decide : (r : Registers) (p : PolicyOf) (a : Access) (rest : ℕ) → IsCompiled r p → IsPolicy p → 1 ≤ a.len → a.rrid < r.shape.rrids
    → r.shape.entries ≡ entry_count (hardware_of Guards p.domains) + (entry_count (hardware_of Grants p.domains) + rest)
    → kind_of (by_covering r a (covering r a)) ≡ grants_kind a p.domains
unfolding grants_kind
grants_decide r p a rest h good some known e =
    let g = entry_count (hardware_of Guards p.domains) in
    let c = entry_count (hardware_of Grants p.domains) in
    let split = holds_split r 0 0 (hardware_of Guards p.domains) (hardware_of Grants p.domains) h.holds in
    let held = cover_domains r a p.domains some known (domains_have_rules p good) (0 + length (hardware_of Guards p.domains)) (0 + entry_count (hardware_of Guards p.domains)) split.1 (omega (arith, h.prio)) in
    let zero_g : 0 + entry_count (hardware_of Guards p.domains) ≡ entry_count (hardware_of Guards p.domains) = omega arith in
    let total = count_append (hardware_of Guards p.domains) (hardware_of Grants p.domains) in
    let low : (j : ℕ) → j < entry_count (hardware_of Guards p.domains) → is_covering r a j ≡ false = λ j l. before_grants r a j (omega (arith, h.prio)) in
    let high : (j : ℕ) → entry_count (hardware_of Guards p.domains) + entry_count (hardware_of Grants p.domains) ≤ j → is_covering r a j ≡ false = λ j l. of_nobody r a j (h.unowned j (omega arith)) in
    let covered = any_all (is_covering r a) (entry_count (hardware_of Guards p.domains)) (entry_count (hardware_of Grants p.domains)) rest (any_grant (rule_covers a) a.rrid p.domains) low
    (ap (λ k. list_any (is_covering r a) (range_with_len k (entry_count (hardware_of Grants p.domains)))) (sym zero_g) ∙ held.covered_is) high in
    let allowed = any_all (granting r a) (entry_count (hardware_of Guards p.domains)) (entry_count (hardware_of Grants p.domains)) rest (any_grant (allows a) a.rrid p.domains) (λ j l. granting_none r a j (low j l))
    (ap (λ k. list_any (granting r a) (range_with_len k (entry_count (hardware_of Grants p.domains)))) (sym zero_g) ∙ held.allowed_is) (λ j l. granting_none r a j (high j l)) in
    covering_kind r a (covering r a)
    ∙ (ap (λ b. cond b 0 (cond (is_some_list (covering r a)) (illegal_kind a) 5)) (any_filter (is_covering r a) (entry_grants r a.rrid a.kind) (entries r) ∙ (ap (λ n. list_any (granting r a) (range_with_len 0 n)) e ∙ allowed))
    ∙ ap (λ b. cond (any_grant (allows a) a.rrid p.domains) 0 (cond b (illegal_kind a) 5)) (some_filter (is_covering r a) (entries r) ∙ (ap (λ n. list_any (is_covering r a) (range_with_len 0 n)) e ∙ covered)))

guards_decide : (r : Registers) (p : PolicyOf) (a : Access) (rest : ℕ) → IsCompiled r p → IsPolicy p → 1 ≤ a.len → a.rrid < r.shape.rrids
    → r.shape.entries ≡ entry_count (hardware_of Guards p.domains) + rest
    → Related r a (first_touching r a) (first_guard (rule_touches a) a.rrid p.domains)
guards_decide r p a rest h good some known e =
    let split = holds_split r 0 0 (hardware_of Guards p.domains) (hardware_of Grants p.domains) h.holds in
    let found = find_domains r a p.domains some known (domains_have_rules p good) 0 0 split.0 (omega (arith, h.prio)) in
    let all = find_all r a (entry_count (hardware_of Guards p.domains)) rest (first_guard (rule_touches a) a.rrid p.domains) (sym h.prio) found in
    subst (λ n. Related r a (find (is_touching r a) (range_with_len 0 n)) (first_guard (rule_touches a) a.rrid p.domains)) (sym e) all

known_decide : (r : Registers) (p : PolicyOf) (a : Access) → IsCompiled r p → IsPolicy p → 1 ≤ a.len → a.rrid < r.shape.rrids
    → kind_of (decide_by_hit r a (first_touching r a)) ≡ kind_by a p.domains (first_guard (rule_touches a) a.rrid p.domains)
known_decide r p a h good some known =
    let total = count_append (hardware_of Guards p.domains) (hardware_of Grants p.domains) in
    let fits = h.fits in
    let rest = r.shape.entries - entry_count (hardware p.domains) in
    kind_related r a p.domains (first_touching r a) (first_guard (rule_touches a) a.rrid p.domains)
    (guards_decide r p a (entry_count (hardware_of Grants p.domains) + (r.shape.entries - entry_count (hardware p.domains))) h good some known (omega arith))
    (grants_decide r p a (r.shape.entries - entry_count (hardware p.domains)) h good some known (omega arith))

by_known : (r : Registers) (p : PolicyOf) (a : Access) (b : Bool) → ltb a.rrid r.shape.rrids ≡ b → IsCompiled r p → IsPolicy p → 1 ≤ a.len
    → kind_of (cond (not b) (violation 6 0xFFFF) (decide_by_hit r a (first_touching r a))) ≡ cond (not b) 6 (kind_by a p.domains (first_guard (rule_touches a) a.rrid p.domains))
by_known r p a true e h good some = known_decide r p a h good some (ltb-true a.rrid r.shape.rrids e)
by_known r p a false e h good some = refl

-- The unit decides each access as the policy does.
pub decided : (r : Registers) (p : PolicyOf) (a : Access) → IsCompiled r p → IsPolicy p → IsValidAccess a → kind_of (decision r a) ≡ policy_decision p a
unfolding policy_decision
decided r p a h good valid =
    let s : r.shape.rrids ≡ p.shape.rrids = ap (λ (x : Shape). x.rrids) h.shape in
    ap (λ b. kind_of (cond (not b) Allowed (cond (not (is_known r a.rrid)) (violation 6 0xFFFF) (decide_by_hit r a (first_touching r a))))) h.enabled
    ∙ (by_known r p a (ltb a.rrid r.shape.rrids) refl h good valid.shortest
    ∙ ap (λ n. cond (not (ltb a.rrid n)) 6 (kind_by a p.domains (first_guard (rule_touches a) a.rrid p.domains))) s)
