-- A search over the entries of a list of rules, beside one over the rules.
use Rattle.std.proofs.Common.{◌≡◌, ℕ, ◌+◌, ◌<◌, ◌≤◌, Bool, true, false, ◌&&◌, ◌||◌, ltb, cond, List, [], ◌∷◌, ◌++◌, length, length-append, Option, Some, None, find, arith, refl, sym, ap, ◌∙◌, subst}
use Rattle.std.specs.List.{range_with_len, list_any}
use Rattle.std.specs.Option.{option_or}
use Rattle.std.proofs.lemmas.Bool.Decides.{nat_tests}
use Rattle.std.proofs.Math.Bool.{or-false, and-false}
use Rattle.std.proofs.lemmas.Bool.{and_right}
use Rattle.event_words.specs.declared.access.Access.{Access}
use Rattle.event_words.specs.Registers.{Registers}
use Rattle.event_words.specs.Entries.{touches, covers}
use Rattle.event_words.specs.Decisions.{prio_count, is_entry_of, entry_grants, is_touching, is_covering}
use Rattle.policy_compiler.specs.declared.policy.Rule.{Rule}
use Rattle.policy_compiler.specs.declared.hardware.EntryWords.{EntryWords}
use Rattle.policy_compiler.specs.Policies.{IsRule, AreRules, is_single}
use Rattle.policy_compiler.specs.Images.{single_entry, two_entries, rule_entries, entries_of}
use Rattle.policy_compiler.specs.Decides.{rule_touches, rule_covers, rule_grants, allows}
use Rattle.policy_compiler.proofs.Finds.{find_range, any_range, both}
use Rattle.policy_compiler.proofs.Held.{HoldsEntries, IsRun, entries_split, shorter_run}
use Rattle.policy_compiler.proofs.RuleAt.{IsRuleEntry, single_held, pair_held}

-- ---- what is found

pub record IsMatch (r : Registers) (a : Access) (j : ℕ) (u : Rule) : Type 0 where
  pub covers : covers r j a ≡ rule_covers a u
  pub grants : entry_grants r a.rrid a.kind j ≡ rule_grants a u

abbrev pub Related : Registers → Access → Option ℕ → Option Rule → Type 0
Related r a None None = Unit {0}
Related r a None (Some u) = ⊥
Related r a (Some j) None = ⊥
Related r a (Some j) (Some u) = IsMatch r a j u

pub related_or : (r : Registers) (a : Access) (o p : Option ℕ) (x y : Option Rule) → Related r a o x → Related r a p y → Related r a (option_or o p) (option_or x y)
related_or r a None p None y h k = k
related_or r a None p (Some u) y h k = absurd h
related_or r a (Some j) p None y h k = absurd h
related_or r a (Some j) p (Some u) y h k = h

-- what is found for a member
abbrev pub when : Bool → Option Rule → Option Rule
when true o = o
when false o = None

when_or : (b : Bool) (x y : Option Rule) → when b (option_or x y) ≡ option_or (when b x) (when b y)
when_or true x y = refl
when_or false x y = refl

find_first : (p : Rule → Bool) (u : Rule) (us : List Rule) (t : Bool) → p u ≡ t → find p (u ∷ us) ≡ option_or (find p (u ∷ [])) (find p us)
find_first p u us true e = rw e refl
find_first p u us false e = rw e refl

pub when_none : (r : Registers) (a : Access) (b : Bool) → Related r a None (when b None)
when_none r a true = tt
when_none r a false = tt

-- ---- one rule

touching_is : (r : Registers) (a : Access) (j : ℕ) (b : Bool) → j < prio_count r → is_entry_of r a.rrid j ≡ b → is_touching r a j ≡ (b && touches r j a)
touching_is r a j b h e =
    let t : ltb j (prio_count r) ≡ true = search (nat_tests, arith) in
    rw (t, e) refl

covering_is : (r : Registers) (a : Access) (j : ℕ) (b : Bool) → prio_count r ≤ j → is_entry_of r a.rrid j ≡ b → is_covering r a j ≡ (b && covers r j a)
covering_is r a j b h e =
    let t : ltb j (prio_count r) ≡ false = search (nat_tests, arith) in
    rw (t, e) refl

found_one : (r : Registers) (a : Access) (j : ℕ) (u : Rule) (b t p : Bool) → p ≡ (b && t) → (b ≡ true → IsMatch r a j u) → Related r a (cond p (Some j) None) (when b (cond t (Some u) None))
found_one r a j u true true p e m = rw e (m refl)
found_one r a j u true false p e m = rw e tt
found_one r a j u false t p e m = rw e tt

match_of : (r : Registers) (a : Access) (b : Bool) (i end j : ℕ) (u : Rule) → IsRun r a b i end → i ≤ j → j < end → IsRuleEntry r a j u → b ≡ true → IsMatch r a j u
match_of r a b i end j u run l h e t = record { covers = e.covers; grants = run.granted t j l h ∙ e.right }

abbrev Finds : Registers → Access → Bool → ℕ → Rule → List EntryWords → Type 0
Finds r a b i u es = HoldsEntries r i es → IsRun r a b i (i + length es) → i + length es ≤ prio_count r
    → Related r a (find (is_touching r a) (range_with_len i (length es))) (when b (find (rule_touches a) (u ∷ [])))

find_single : (r : Registers) (a : Access) (b : Bool) (i : ℕ) (u : Rule) → IsRule u → is_single u.from u.size ≡ true → Finds r a b i u (single_entry u ∷ [])
find_single r a b i u h s held run small =
    let e = single_held r a i u h s held in
    found_one r a i u b (rule_touches a u) (is_touching r a i) (touching_is r a i b (omega arith) (run.own i (omega arith) (omega arith)) ∙ ap (λ t. b && t) e.touches)
    (match_of r a b i (i + 1) i u run (omega arith) (omega arith) e)

find_pair : (r : Registers) (a : Access) (b : Bool) (i : ℕ) (u : Rule) → 1 ≤ a.len → IsRule u → Finds r a b i u (two_entries u)
find_pair r a b i u some h held run small =
    let e = pair_held r a i u some h held in
    let first : is_touching r a i ≡ false = touching_is r a i b (omega arith) (run.own i (omega arith) (omega arith)) ∙ and_right b (touches r i a) e.0.touches in
    let second = touching_is r a (i + 1) b (omega arith) (run.own (i + 1) (omega arith) (omega arith)) ∙ ap (λ t. b && t) e.1.touches in
    rw first (found_one r a (i + 1) u b (rule_touches a u) (is_touching r a (i + 1)) second (match_of r a b i (i + 2) (i + 1) u run (omega arith) (omega arith) e.1))

by_single : (u : Rule) (s : Bool) → is_single u.from u.size ≡ s → rule_entries u ≡ cond s (single_entry u ∷ []) (two_entries u)
unfolding rule_entries
by_single u s e = rw e refl

-- a fact about the entries of a single rule and about those of another
of_both : (P : List EntryWords → Type 0) (u : Rule) (s : Bool) → is_single u.from u.size ≡ s → (is_single u.from u.size ≡ true → P (single_entry u ∷ [])) → P (two_entries u) → P (rule_entries u)
of_both P u true e f g = subst P (sym (by_single u true e)) (f e)
of_both P u false e f g = subst P (sym (by_single u false e)) g

find_rule : (r : Registers) (a : Access) (b : Bool) (i : ℕ) (u : Rule) → 1 ≤ a.len → IsRule u → Finds r a b i u (rule_entries u)
find_rule r a b i u some h = of_both (Finds r a b i u) u (is_single u.from u.size) refl (find_single r a b i u h) (find_pair r a b i u some h)

-- Searching the entries of rules finds the first rule that touches.
pub find_rules : (r : Registers) (a : Access) (b : Bool) (i : ℕ) (us : List Rule) → 1 ≤ a.len → AreRules us → HoldsEntries r i (entries_of us) → IsRun r a b i (i + length (entries_of us)) → i + length (entries_of us) ≤ prio_count r
    → Related r a (find (is_touching r a) (range_with_len i (length (entries_of us)))) (when b (find (rule_touches a) us))
find_rules r a b i [] some good held run small = when_none r a b
find_rules r a b i (u ∷ us) some good held run small =
    let n = length (rule_entries u) in
    let m = length (entries_of us) in
    let l : length (rule_entries u ++ entries_of us) ≡ length (rule_entries u) + length (entries_of us) = length-append (rule_entries u) (entries_of us) in
    let parts = entries_split r i (rule_entries u) (entries_of us) held in
    let head = find_rule r a b i u some good.0 parts.0 (shorter_run r a b i (i + length (rule_entries u ++ entries_of us)) i (i + length (rule_entries u)) (omega arith) (omega arith) run) (omega arith) in
    let tail = find_rules r a b (i + length (rule_entries u)) us some good.1 parts.1 (shorter_run r a b i (i + length (rule_entries u ++ entries_of us)) (i + length (rule_entries u)) (i + length (rule_entries u) + length (entries_of us)) (omega arith) (omega arith) run) (omega arith) in
    let whole = related_or r a _ _ _ _ head tail in
    let left = ap (λ k. find (is_touching r a) (range_with_len i k)) l ∙ find_range (is_touching r a) i (length (rule_entries u)) (length (entries_of us)) in
    let right = ap (when b) (find_first (rule_touches a) u us (rule_touches a u) refl) ∙ when_or b (find (rule_touches a) (u ∷ [])) (find (rule_touches a) us) in
    subst (λ o. Related r a o (when b (find (rule_touches a) (u ∷ us)))) (sym left) (subst (Related r a _) (sym right) whole)

-- ---- covering entries

abbrev pub granting : Registers → Access → ℕ → Bool
granting r a = both (is_covering r a) (entry_grants r a.rrid a.kind)

pub record Covers (r : Registers) (a : Access) (b : Bool) (i n : ℕ) (us : List Rule) : Type 0 where
  pub covered : list_any (is_covering r a) (range_with_len i n) ≡ (b && list_any (rule_covers a) us)
  pub allowed : list_any (granting r a) (range_with_len i n) ≡ (b && list_any (allows a) us)

granting_is : (r : Registers) (a : Access) (j : ℕ) (u : Rule) (b : Bool) → is_covering r a j ≡ (b && rule_covers a u) → (b ≡ true → IsMatch r a j u) → granting r a j ≡ (b && allows a u)
granting_is r a j u true e m = rw (e, (m refl).grants) refl
granting_is r a j u false e m = rw e refl

abbrev CoversBy : Registers → Access → Bool → ℕ → Rule → List EntryWords → Type 0
CoversBy r a b i u es = HoldsEntries r i es → IsRun r a b i (i + length es) → prio_count r ≤ i → Covers r a b i (length es) (u ∷ [])

one_covers : (r : Registers) (a : Access) (b : Bool) (j : ℕ) (u : Rule) → is_covering r a j ≡ (b && rule_covers a u) → granting r a j ≡ (b && allows a u) → Covers r a b j 1 (u ∷ [])
one_covers r a b j u e f = record {
  covered = or-false (is_covering r a j) ∙ (e ∙ ap (λ t. b && t) (sym (or-false (rule_covers a u))));
  allowed = or-false (granting r a j) ∙ (f ∙ ap (λ t. b && t) (sym (or-false (allows a u))));
}

cover_single : (r : Registers) (a : Access) (b : Bool) (i : ℕ) (u : Rule) → IsRule u → is_single u.from u.size ≡ true → CoversBy r a b i u (single_entry u ∷ [])
cover_single r a b i u h s held run past =
    let e = single_held r a i u h s held in
    let c = covering_is r a i b past (run.own i (omega arith) (omega arith)) ∙ ap (λ t. b && t) e.covers in
    one_covers r a b i u c (granting_is r a i u b c (match_of r a b i (i + 1) i u run (omega arith) (omega arith) e))

cover_pair : (r : Registers) (a : Access) (b : Bool) (i : ℕ) (u : Rule) → 1 ≤ a.len → IsRule u → CoversBy r a b i u (two_entries u)
cover_pair r a b i u some h held run past =
    let e = pair_held r a i u some h held in
    let first : is_covering r a i ≡ false = covering_is r a i b past (run.own i (omega arith) (omega arith)) ∙ and_right b (covers r i a) e.0.covers in
    let c = covering_is r a (i + 1) b (omega arith) (run.own (i + 1) (omega arith) (omega arith)) ∙ ap (λ t. b && t) e.1.covers in
    let rest = one_covers r a b (i + 1) u c (granting_is r a (i + 1) u b c (match_of r a b i (i + 2) (i + 1) u run (omega arith) (omega arith) e.1)) in
    record { covered = rw first rest.covered; allowed = rw first rest.allowed }

cover_rule : (r : Registers) (a : Access) (b : Bool) (i : ℕ) (u : Rule) → 1 ≤ a.len → IsRule u → CoversBy r a b i u (rule_entries u)
cover_rule r a b i u some h = of_both (CoversBy r a b i u) u (is_single u.from u.size) refl (cover_single r a b i u h) (cover_pair r a b i u some h)

and_or : (b x y : Bool) → (b && (x || y)) ≡ ((b && x) || (b && y))
and_or true x y = refl
and_or false x y = refl

any_step : (p : ℕ → Bool) (q : Rule → Bool) (b : Bool) (i n m : ℕ) (u : Rule) (us : List Rule) → list_any p (range_with_len i n) ≡ (b && list_any q (u ∷ [])) → list_any p (range_with_len (i + n) m) ≡ (b && list_any q us)
    → list_any p (range_with_len i (n + m)) ≡ (b && list_any q (u ∷ us))
any_step p q b i n m u us e f =
    any_range p i n m ∙ (ap (λ x. x || list_any p (range_with_len (i + n) m)) (e ∙ ap (λ x. b && x) (or-false (q u))) ∙ (ap (λ x. (b && q u) || x) f ∙ sym (and_or b (q u) (list_any q us))))

-- Some entry of rules covers the access where some rule does, and the same with the right.
pub cover_rules : (r : Registers) (a : Access) (b : Bool) (i : ℕ) (us : List Rule) → 1 ≤ a.len → AreRules us → HoldsEntries r i (entries_of us) → IsRun r a b i (i + length (entries_of us)) → prio_count r ≤ i
    → Covers r a b i (length (entries_of us)) us
cover_rules r a b i [] some good held run past = record { covered = sym (and-false b); allowed = sym (and-false b) }
cover_rules r a b i (u ∷ us) some good held run past =
    let l : length (rule_entries u ++ entries_of us) ≡ length (rule_entries u) + length (entries_of us) = length-append (rule_entries u) (entries_of us) in
    let parts = entries_split r i (rule_entries u) (entries_of us) held in
    let head = cover_rule r a b i u some good.0 parts.0 (shorter_run r a b i (i + length (rule_entries u ++ entries_of us)) i (i + length (rule_entries u)) (omega arith) (omega arith) run) past in
    let tail = cover_rules r a b (i + length (rule_entries u)) us some good.1 parts.1 (shorter_run r a b i (i + length (rule_entries u ++ entries_of us)) (i + length (rule_entries u)) (i + length (rule_entries u) + length (entries_of us)) (omega arith) (omega arith) run) (omega arith) in
    record {
      covered = ap (λ k. list_any (is_covering r a) (range_with_len i k)) l ∙ any_step (is_covering r a) (rule_covers a) b i (length (rule_entries u)) (length (entries_of us)) u us head.covered tail.covered;
      allowed = ap (λ k. list_any (granting r a) (range_with_len i k)) l ∙ any_step (granting r a) (allows a) b i (length (rule_entries u)) (length (entries_of us)) u us head.allowed tail.allowed;
    }
