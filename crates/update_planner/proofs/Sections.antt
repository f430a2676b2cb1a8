-- A plan's commands are those of the entries of its map, and they make a valid section.
use Rattle.std.proofs.Common.{◌≡◌, ℕ, zero, suc, ◌+◌, ◌^◌, ◌<◌, ◌≤◌, Bool, true, false, ◌==◌, ◌&&◌, ◌||◌, not, cond, List, [], ◌∷◌, ◌++◌, Option, None, Some, map, filter, length, length-append, count_by, arith, refl, sym, ap, ◌∙◌}
use Rattle.std.specs.List.{range_with_len, AllByRecursion}
use Rattle.std.specs.Option.{unwrap_or, IfSome, is_some, option_or, option_map}
use Rattle.std.specs.Ordering.{nat_cmp}
use Rattle.std.specs.BTreeMap.{BTreeMap, get, IsOrdered}
use Rattle.std.proofs.lemmas.Bool.Decides.{nat_tests}
use Rattle.std.proofs.lemmas.List.{length-map}
use Rattle.event_words.specs.declared.register.Register.TheVariants.{Hwcfg0, Mdstall, EntryAddr}
use Rattle.event_words.specs.declared.section.Command.{Command}
use Rattle.event_words.specs.declared.section.Command.TheVariants.{Write}
use Rattle.event_words.specs.Registers.{index_count, index_of}
use Rattle.event_words.specs.Sections.{is_submit, IsMax, AreValidCommands, IsValidSection}
use Rattle.event_words.specs.declared.shape.Shape.{Shape}
use Rattle.policy_compiler.specs.declared.image.RegPair.{RegPair}
use Rattle.policy_compiler.specs.Commands.{write_command}
use Rattle.policy_compiler.specs.Images.{ImageOf}
use Rattle.policy_compiler.proofs.Within.{AreWords}
use Rattle.update_planner.specs.Plans.{written_value, is_rewritten, rewrite, rewrites, rewriting, plan_commands}
use Rattle.update_planner.specs.Values.{zero_for, rewritten_value, entry_pair, IsOfUnit, WritesUnit}
use Rattle.update_planner.specs.Gives.{section_with}
use Rattle.update_planner.proofs.Order.{held, with_value, IsOver, BeginsFrom, entries_are}

-- ---- the commands of the entries

abbrev new_value : ImageOf → ℕ → ℕ
new_value new index = unwrap_or (written_value new.writes index) 0

value_held : (old new : Option ℕ) (b : Bool)
    → cond b None (option_or new (option_or (option_map zero_for old) None))
    ≡ held (not b && (is_some old || is_some new)) (unwrap_or new 0)
value_held old new true = refl
value_held None None false = refl
value_held None (Some y) false = refl
value_held (Some x) None false = refl
value_held (Some x) (Some y) false = refl

-- a register that neither image writes lies past those that they write
not_written : (h : Shape) (ws : List RegPair) (q : ℕ) → AllByRecursion (IsOfUnit h) ws → index_count h ≤ q → written_value ws q ≡ None
not_written h [] q all l = refl
not_written h (w ∷ ws) q all l =
    let below = all.0 in
    let other : (w.index == q) ≡ false = grind (arith, nat_tests) in
    rw (not_written h ws q all.1 l, other) refl

none_over : (old new : ImageOf) → WritesUnit new.shape old → WritesUnit new.shape new
    → IsOver (is_rewritten old new) (0 + index_count new.shape)
none_over old new a b q l =
    let o = not_written new.shape old.writes q a (omega arith) in
    let n = not_written new.shape new.writes q b (omega arith) in
    rw (o, n) (by_test (q == index_of Hwcfg0))
  where
    by_test : (b : Bool) → (not b && false) ≡ false
    by_test true = refl
    by_test false = refl

written_pairs : (new : ImageOf) (is : List ℕ)
    → map write_command (map entry_pair (map (with_value (new_value new)) is)) ≡ map (rewrite new) is
written_pairs new [] = refl
written_pairs new (i ∷ is) = ap (λ cs. rewrite new i ∷ cs) (written_pairs new is)

begins : (es : List (ℕ × ℕ)) → BeginsFrom 0 es
begins [] = tt
begins (e ∷ es) = omega arith

-- The writes of a map's entries are the plan's.
pub pairs_rewrite : (old new : ImageOf) (m : BTreeMap ℕ ℕ) (ws : List RegPair) → ws ≡ map entry_pair m.entries → WritesUnit new.shape old
    → WritesUnit new.shape new → IsOrdered nat_cmp m
    → ((q : ℕ) → get nat_cmp m q ≡ rewritten_value old.writes new.writes q) → map write_command ws ≡ rewrites old new
unfolding rewrites
pairs_rewrite old new m ws is a b ordered finds =
    let e = entries_are (is_rewritten old new) (new_value new) 0 (index_count new.shape) m.entries ordered (begins m.entries)
    (λ q l. finds q ∙ value_held (written_value old.writes q) (written_value new.writes q) (q == index_of Hwcfg0)) (none_over old new a b) in
    ap (map write_command) (is ∙ ap (map entry_pair) e) ∙ written_pairs new (filter (is_rewritten old new) (range_with_len 0 (index_count new.shape)))

-- ---- the section

word_written : (ws : List RegPair) (q : ℕ) → AreWords ws → IfSome (written_value ws q) (λ v. v < 2 ^ 32)
word_written [] q words = tt
word_written (w ∷ ws) q words = by_cases (written_value ws q) (w.index == q) (word_written ws q words.1) words.0
  where
    by_cases : (o : Option ℕ) (b : Bool) → IfSome o (λ v. v < 2 ^ 32) → w.value < 2 ^ 32
        → IfSome (option_or o (cond b (Some w.value) None)) (λ v. v < 2 ^ 32)
    by_cases (Some x) b h k = h
    by_cases None true h k = k
    by_cases None false h k = tt

small_or_zero : (o : Option ℕ) → IfSome o (λ v. v < 2 ^ 32) → unwrap_or o 0 < 2 ^ 32
small_or_zero None h = omega arith
small_or_zero (Some x) h = h

-- the indexes of a unit of 1024 entries
abbrev pub most_indexes : ℕ
most_indexes = index_of (EntryAddr 1024)

abbrev IsIndex : ℕ → Type 0
IsIndex i = i < 2 ^ 22

indexes_below : (p : ℕ → Bool) (a n : ℕ) → a + n ≤ 2 ^ 22 → AllByRecursion IsIndex (filter p (range_with_len a n))
indexes_below p a zero l = tt
indexes_below p a (suc n) l = by_test (p a) (filter p (range_with_len (a + 1) n)) (indexes_below p (a + 1) n (omega arith))
  where
    by_test : (b : Bool) (is : List ℕ) → AllByRecursion IsIndex is → AllByRecursion IsIndex (cond b (a ∷ is) is)
    by_test true is all = (omega arith, all)
    by_test false is all = all

filter_few : (p : ℕ → Bool) (a n : ℕ) → length (filter p (range_with_len a n)) ≤ n
filter_few p a zero = omega arith
filter_few p a (suc n) = by_test (p a) (filter p (range_with_len (a + 1) n)) (filter_few p (a + 1) n)
  where
    by_test : (b : Bool) (is : List ℕ) → length is ≤ n → length (cond b (a ∷ is) is) ≤ suc n
    by_test true is few = omega arith
    by_test false is few = omega arith

abbrev release : List Command
release = Write 0 (index_of Mdstall) 0 ∷ []

valid_rewrites : (new : ImageOf) (is : List ℕ) → AreWords new.writes → AllByRecursion IsIndex is
    → AreValidCommands 0 (map (rewrite new) is ++ release)
valid_rewrites new [] words small = ((omega arith, omega arith, omega arith), tt)
valid_rewrites new (i ∷ is) words small =
    ((omega arith, small.0, small_or_zero (written_value new.writes i) (word_written new.writes i words)), valid_rewrites new is words small.1)

none_submit : (new : ImageOf) (is : List ℕ) → count_by is_submit (map (rewrite new) is ++ release) ≡ 0
none_submit new [] = refl
none_submit new (i ∷ is) = none_submit new is

-- The commands from the drained reading on are valid, and none submits.
pub record IsValidTail (commands : List Command) : Type 0 where
  pub few : length commands ≤ 8192
  pub slots : count_by is_submit commands ≡ 0
  pub all : AreValidCommands 0 commands

pub valid_rewriting : (old new : ImageOf) (polls : ℕ) → IsMax polls → index_count new.shape ≤ most_indexes → AreWords new.writes
    → IsValidTail (rewriting (rewrites old new) polls)
unfolding rewrites
valid_rewriting old new polls max few words =
    let is : List ℕ = filter (is_rewritten old new) (range_with_len 0 (index_count new.shape)) in
    let short = filter_few (is_rewritten old new) 0 (index_count new.shape) in
    let l = length-append (map (rewrite new) is) release in
    let m = length-map is (rewrite new) in
    record {
      few = omega arith;
      slots = none_submit new is;
      all = (
        (omega arith, omega arith, omega arith, omega arith, max),
        valid_rewrites new is words (indexes_below (is_rewritten old new) 0 (index_count new.shape) (omega arith)),
      );
    }

-- The commands of a plan make a valid section.
pub valid_plan : (old new : ImageOf) (polls : ℕ) → IsMax polls → index_count new.shape ≤ most_indexes → AreWords new.writes
    → IsValidSection (section_with (plan_commands old new polls))
unfolding plan_commands
valid_plan old new polls max few words =
    let tail = valid_rewriting old new polls max few words in
    record {
      few = omega (arith, tail.few);
      slots = sym tail.slots;
      commands = ((omega arith, omega arith, omega arith), tail.all);
    }
