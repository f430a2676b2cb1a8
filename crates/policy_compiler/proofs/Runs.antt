-- Which accesses touch a rule's bytes and lie in them, by where they begin and end.
use Rattle.std.proofs.Common.{◌≡◌, ◌+◌, ◌-◌, ◌<◌, ◌≤◌, true, false, ltb, leb, arith, ◌∙◌}
use Rattle.std.proofs.lemmas.Bool.Decides.{nat_tests}
use Rattle.std.proofs.Math.Bool.{and-true}
use Rattle.event_words.specs.declared.access.Access.{Access}
use Rattle.event_words.proofs.ByteRuns.{all_of_some, any_of_some, any_of_none}
use Rattle.policy_compiler.specs.declared.policy.Rule.{Rule}
use Rattle.policy_compiler.specs.Decides.{rule_touches, rule_covers}

pub touches_empty : (a : Access) (u : Rule) → u.size ≡ 0 → rule_touches a u ≡ false
unfolding rule_touches
touches_empty a u h = any_of_none u.from (u.from + u.size) a.addr a.len (omega arith)

pub touches_before : (a : Access) (u : Rule) → 1 ≤ a.len → 1 ≤ u.size → a.addr < u.from → rule_touches a u ≡ ltb u.from (a.addr + a.len)
unfolding rule_touches
touches_before a u h p q =
    let e = any_of_some u.from (u.from + u.size) a.addr a.len (omega arith) h in
    let t : ltb a.addr (u.from + u.size) ≡ true = search (nat_tests, arith) in
    rw (t, and-true (ltb u.from (a.addr + a.len))) at e

pub touches_within : (a : Access) (u : Rule) → 1 ≤ a.len → 1 ≤ u.size → u.from ≤ a.addr → rule_touches a u ≡ ltb (a.addr - u.from) u.size
unfolding rule_touches
touches_within a u h p q =
    let e = any_of_some u.from (u.from + u.size) a.addr a.len (omega arith) h in
    let t : ltb u.from (a.addr + a.len) ≡ true = search (nat_tests, arith) in
    let s : ltb a.addr (u.from + u.size) ≡ ltb (a.addr - u.from) u.size = grind (arith, nat_tests) in
    rw t at e ∙ s

pub covers_before : (a : Access) (u : Rule) → 1 ≤ a.len → a.addr < u.from → rule_covers a u ≡ false
unfolding rule_covers
covers_before a u h p =
    let e = all_of_some u.from (u.from + u.size) a.addr a.len h in
    let t : leb u.from a.addr ≡ false = search (nat_tests, arith) in
    rw t at e

pub covers_within : (a : Access) (u : Rule) → 1 ≤ a.len → u.from ≤ a.addr → rule_covers a u ≡ leb (a.addr - u.from + a.len) u.size
unfolding rule_covers
covers_within a u h p =
    let e = all_of_some u.from (u.from + u.size) a.addr a.len h in
    let t : leb u.from a.addr ≡ true = search (nat_tests, arith) in
    let s : leb (a.addr + a.len) (u.from + u.size) ≡ leb (a.addr - u.from + a.len) u.size = grind (arith, nat_tests) in
    rw t at e ∙ s
