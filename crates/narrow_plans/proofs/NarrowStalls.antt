-- Whom the stalls of a narrow plan stall: each affected requester, and no unaffected one.
use Rattle.std.proofs.Common.{◌≡◌, ℕ, zero, suc, ◌+◌, ◌/◌, ◌%◌, ◌^◌, ◌<◌, ◌≤◌, ◌++◌, ◌==◌, inr, not, Bool, true, false, cond, List, [], ◌∷◌, map, filter, refl, sym, ap, subst, ◌∙◌, arith, ⊎_elim}
use Rattle.std.specs.List.{AllByRecursion, range_with_len}
use Rattle.std.proofs.lemmas.Bool.{cases_eq, cond-true, cond-false, eq-eqb, ne_eqb}
use Rattle.event_words.specs.Registers.{index_of}
use Rattle.event_words.specs.declared.register.Register.TheVariants.{Rridscp}
use Rattle.event_words.specs.declared.shape.Shape.{Shape}
use Rattle.policy_compiler.specs.declared.image.RegPair.{RegPair}
use Rattle.policy_compiler.specs.Policies.{PolicyOf, IsPolicy}
use Rattle.policy_compiler.specs.Images.{ImageOf, pair, image_of}
use Rattle.policy_compiler.specs.Commands.{write_command}
use Rattle.policy_compiler.proofs.Standing.{IsStall}
use Rattle.policy_compiler.proofs.Decisive.{image_shape}
use Rattle.update_planner.specs.Plans.{rewrites, rewriting}
use Rattle.history_laws.proofs.WriteRecords.{plan_of, until_drained}
use Rattle.history_laws.proofs.UnitStands.{flag_after, flag_from}
use Rattle.history_laws.proofs.TableRewrites.{tables_between, rewrites_are}
use Rattle.narrow_plans.specs.Unaffected.{is_affected, affected}
use Rattle.narrow_plans.specs.NarrowPlans.{stall_command, narrow_commands}
use Rattle.narrow_plans.specs.Laws.{IsUnaffected, IsAffected}

-- ---- the plan's commands

abbrev stall_write : ℕ → RegPair
stall_write s = pair (index_of Rridscp) (2 ^ 30 + s)

abbrev pub stalls_of : ImageOf → ImageOf → List RegPair
stalls_of old new = map stall_write (affected old new)

pub narrow_is : (old new : ImageOf) (polls : ℕ) → narrow_commands old new polls ≡ plan_of (stalls_of old new) (tables_between old new) polls
unfolding narrow_commands
narrow_is old new polls =
    ap (λ cs. cs ++ rewriting (rewrites old new) polls) (same (affected old new))
    ∙ ap (λ cs. map write_command (stalls_of old new) ++ (until_drained polls ∷ cs)) (rewrites_are old new)
  where
    same : (ss : List ℕ) → map stall_command ss ≡ map write_command (map stall_write ss)
    same [] = refl
    same (s ∷ ss) = ap (λ cs. stall_command s ∷ cs) (same ss)

pub each_stalls : (old new : ImageOf) → AllByRecursion IsStall (stalls_of old new)
each_stalls old new = each (affected old new)
  where
    each : (ss : List ℕ) → AllByRecursion IsStall (map stall_write ss)
    each [] = tt
    each (s ∷ ss) = (inr refl, each ss)

-- ---- the flags that they leave

-- a write sets one flag
sets : (s t : ℕ) (b : Bool) → t < 64 → flag_after s b (stall_write t) ≡ cond (t == s) true b
sets s t b l =
    let one : (2 ^ 30 + t) / 2 ^ 30 ≡ 1 = omega arith in
    let low : (2 ^ 30 + t) % 2 ^ 16 ≡ t = omega arith in
    ap (λ n. cond (n == 1) (cond ((2 ^ 30 + t) % 2 ^ 16 == s) true b) (cond (n == 2) (cond ((2 ^ 30 + t) % 2 ^ 16 == s) false b) b)) one
    ∙ ap (λ n. cond (n == s) true b) low

-- those of the n numbers from a on that pass a test
abbrev chosen : (ℕ → Bool) → ℕ → ℕ → List ℕ
chosen p a n = filter p (range_with_len a n)

below : (p : ℕ → Bool) (a n : ℕ) → a + n ≤ 64 → AllByRecursion (λ t. t < 64) (chosen p a n)
below p a zero l = tt
below p a (suc n) l = by (p a) (below p (a + 1) n (omega arith))
  where
    by : (b : Bool) → AllByRecursion (λ t. t < 64) (chosen p (a + 1) n)
        → AllByRecursion (λ t. t < 64) (cond b (a ∷ chosen p (a + 1) n) (chosen p (a + 1) n))
    by true rest = (omega arith, rest)
    by false rest = rest

stays_set : (s : ℕ) (ts : List ℕ) → AllByRecursion (λ t. t < 64) ts → flag_from s true (map stall_write ts) ≡ true
stays_set s [] h = refl
stays_set s (t ∷ ts) h = ap (λ b. flag_from s b (map stall_write ts)) (sets s t true h.0 ∙ always (t == s)) ∙ stays_set s ts h.1
  where
    always : (b : Bool) → cond b true true ≡ true
    always true = refl
    always false = refl

named : (s : ℕ) (p : ℕ → Bool) (a n : ℕ) (b : Bool) → a + n ≤ 64 → a ≤ s → s < a + n → p s ≡ true
    → flag_from s b (map stall_write (chosen p a n)) ≡ true
named s p a zero b room l m t = absurd (omega arith)
named s p a (suc n) b room l m t = ⊎_elim
    (λ (e : a ≡ s).
    let here : p a ≡ true = ap p e ∙ t in
    let set : flag_after s b (stall_write a) ≡ true = sets s a b (omega arith) ∙ cond-true (a == s) true b (eq-eqb a s e) in
    ap (λ c. flag_from s b (map stall_write (cond c (a ∷ chosen p (a + 1) n) (chosen p (a + 1) n)))) here
    ∙ (ap (λ c. flag_from s c (map stall_write (chosen p (a + 1) n))) set ∙ stays_set s (chosen p (a + 1) n) (below p (a + 1) n (omega arith))))
    (λ (ne : a ≡ s → ⊥). by (p a) (λ c. named s p (a + 1) n c (omega arith) (omega arith) (omega arith) t))
    (cases_eq a s)
  where
    by : (c : Bool) → ((d : Bool) → flag_from s d (map stall_write (chosen p (a + 1) n)) ≡ true)
        → flag_from s b (map stall_write (cond c (a ∷ chosen p (a + 1) n) (chosen p (a + 1) n))) ≡ true
    by true rest = rest (flag_after s b (stall_write a))
    by false rest = rest b

-- a write leaves a requester's flag clear
abbrev pub Spares : ℕ → RegPair → Type 0
Spares s w = flag_after s false w ≡ false

spared : (s : ℕ) (p : ℕ → Bool) (a n : ℕ) → a + n ≤ 64 → p s ≡ false
    → AllByRecursion (Spares s) (map stall_write (chosen p a n))
spared s p a zero room f = tt
spared s p a (suc n) room f = by (p a) refl (spared s p (a + 1) n (omega arith) f)
  where
    by : (c : Bool) → p a ≡ c → AllByRecursion (Spares s) (map stall_write (chosen p (a + 1) n))
        → AllByRecursion (Spares s) (map stall_write (cond c (a ∷ chosen p (a + 1) n) (chosen p (a + 1) n)))
    by true e rest = (sets s a false (omega arith) ∙ cond-false (a == s) true false (ne_eqb a s (λ q. let n : false ≡ true = sym f ∙ (ap p (sym q) ∙ e) in absurd (cc))), rest)
    by false e rest = rest

pub stay_clear : (s : ℕ) (ws : List RegPair) → AllByRecursion (Spares s) ws → flag_from s false ws ≡ false
stay_clear s [] h = refl
stay_clear s (w ∷ ws) h = ap (λ b. flag_from s b ws) h.0 ∙ stay_clear s ws h.1

known_below : (old : PolicyOf) (s : ℕ) → s < old.shape.rrids → s < (image_of old).shape.rrids
known_below old s l = subst (λ (h : Shape). s < h.rrids) (sym (image_shape old)) l

few_known : (old : PolicyOf) → IsPolicy old → (image_of old).shape.rrids ≤ 64
few_known old good = subst (λ (h : Shape). h.rrids ≤ 64) (sym (image_shape old)) good.shape.valid.rrids.1

pub stalls_affected : (old new : PolicyOf) (s : ℕ) → IsPolicy old → IsAffected old new s
    → flag_from s false (stalls_of (image_of old) (image_of new)) ≡ true
unfolding affected
stalls_affected old new s good a =
    let few = few_known old good in
    let known = known_below old s a.0 in
    named s (is_affected (image_of old) (image_of new)) 0 (image_of old).shape.rrids false (omega arith) (omega arith) (omega arith) (ap (λ b. not b) a.1)

pub spares_unaffected : (old new : PolicyOf) (s : ℕ) → IsPolicy old → IsUnaffected old new s
    → AllByRecursion (Spares s) (stalls_of (image_of old) (image_of new))
unfolding affected
spares_unaffected old new s good a =
    let few = few_known old good in
    spared s (is_affected (image_of old) (image_of new)) 0 (image_of old).shape.rrids (omega arith) (ap (λ b. not b) a.1)
