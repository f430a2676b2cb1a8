-- What a map has at a register after writes are put into it one by one.
use Rattle.std.proofs.Common.{◌≡◌, ℕ, ◌+◌, ◌<◌, Bool, true, false, ◌==◌, ltb, cond, List, Option, None, Some, if◌then◌else◌, length, get_or, drop, arith, refl, sym, ap, ◌∙◌}
use Rattle.std.specs.Option.{option_or, option_map}
use Rattle.std.specs.Ordering.{nat_cmp, is_eq}
use Rattle.std.specs.declared.cmp.Ordering.TheVariants.{Less, Equal, Greater}
use Rattle.std.specs.BTreeMap.{is_at}
use Rattle.std.proofs.lemmas.Bool.Decides.{nat_tests}
use Rattle.std.proofs.lemmas.List.{drop_more}
use Rattle.policy_compiler.specs.declared.image.RegPair.{RegPair}
use Rattle.update_planner.specs.Plans.{written_value}
use Rattle.update_planner.specs.Values.{zero_for, zeros_over, values_over}

by_order : (k q : ℕ) (a b : Bool) → ltb k q ≡ a → (k == q) ≡ b → is_eq (cond a Less (cond b Equal Greater)) ≡ b
by_order k q true true s t = absurd (grind (arith, nat_tests))
by_order k q true false s t = refl
by_order k q false true s t = refl
by_order k q false false s t = refl

-- the map finds a key by equality
pub at_key : (k q : ℕ) → is_at (nat_cmp k) q ≡ (k == q)
at_key k q = by_order k q (ltb k q) (k == q) refl refl

value_case : (o : Option ℕ) (b : Bool) (v : ℕ) (before : Option ℕ)
    → option_or o (cond b (Some v) before) ≡ option_or (option_or o (if b then Some v else None)) before
value_case None true v before = refl
value_case None false v before = refl
value_case (Some x) b v before = refl

zero_case : (o : Option ℕ) (b : Bool) (v : ℕ) (before : Option ℕ)
    → option_or (option_map zero_for o) (cond b (Some 0) before)
    ≡ option_or (option_map zero_for (option_or o (if b then Some v else None))) before
zero_case None true v before = refl
zero_case None false v before = refl
zero_case (Some x) b v before = refl

-- one more write is put
pub value_put : (ws : List RegPair) (i q : ℕ) (d : RegPair) (had has whole : Option ℕ) → i < length ws
    → has ≡ cond (is_at (nat_cmp (get_or ws i d).index) q) (Some (get_or ws i d).value) had
    → values_over (drop i ws) had q ≡ whole → values_over (drop (i + 1) ws) has q ≡ whole
value_put ws i q d had has whole l e h =
    let w = get_or ws i d in
    let s = value_case (written_value (drop (i + 1) ws) q) ((get_or ws i d).index == q) (get_or ws i d).value had in
    ap (λ o. values_over (drop (i + 1) ws) o q) (e ∙ ap (λ b. cond b (Some (get_or ws i d).value) had) (at_key (get_or ws i d).index q))
    ∙ (s ∙ (ap (λ xs. values_over xs had q) (sym (drop_more ws i d l)) ∙ h))

-- one more 0 is put
pub zero_put : (ws : List RegPair) (i q : ℕ) (d : RegPair) (had has whole : Option ℕ) → i < length ws
    → has ≡ cond (is_at (nat_cmp (get_or ws i d).index) q) (Some 0) had
    → zeros_over (drop i ws) had q ≡ whole → zeros_over (drop (i + 1) ws) has q ≡ whole
zero_put ws i q d had has whole l e h =
    let s = zero_case (written_value (drop (i + 1) ws) q) ((get_or ws i d).index == q) (get_or ws i d).value had in
    ap (λ o. zeros_over (drop (i + 1) ws) o q) (e ∙ ap (λ b. cond b (Some 0) had) (at_key (get_or ws i d).index q))
    ∙ (s ∙ (ap (λ xs. zeros_over xs had q) (sym (drop_more ws i d l)) ∙ h))
