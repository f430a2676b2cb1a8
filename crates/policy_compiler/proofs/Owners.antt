-- The owners of entries and the members of domains, by the words of the tables.
use Rattle.std.proofs.Common.{◌≡◌, ℕ, zero, suc, ◌+◌, ◌*◌, ◌<◌, ◌≤◌, Bool, true, false, ◌||◌, ltb, List, [], ◌∷◌, length, Some, None, find, arith, refl, sym, ap, ◌∙◌, subst, ⊎_elim}
use Rattle.std.specs.List.{range_with_len}
use Rattle.std.proofs.lemmas.Bool.{cases_lt}
use Rattle.std.proofs.lemmas.Bool.Decides.{nat_tests}
use Rattle.event_words.specs.declared.access.Kind.{Kind}
use Rattle.event_words.specs.declared.access.Kind.TheVariants.{Read, Write, Fetch}
use Rattle.event_words.specs.Registers.{Registers, word_at, has_bit, has_pair_bit}
use Rattle.event_words.specs.Domains.{bound_of, is_bounded_by, owner_of, has_first_permission, has_second_permission, is_in_table, is_associated, domain_grants, by_kind}
use Rattle.event_words.proofs.Ranges.{find_none}
use Rattle.policy_compiler.specs.declared.hardware.EntryWords.{EntryWords}
use Rattle.policy_compiler.specs.Images.{HardwareOf, entry_count, enable_bits, permissions}
use Rattle.policy_compiler.proofs.Puts.{end_at, members_at, all_entries, ReadsEntries}
use Rattle.policy_compiler.proofs.SrcmdRows.{ReadsRow}
use Rattle.policy_compiler.proofs.PairWords.{has_pair_bit-words}
use Rattle.policy_compiler.proofs.Masks.{enable_member, permission_member}
use Rattle.policy_compiler.proofs.Held.{HoldsEntries, Holds, entries_split}

-- ---- owners

pub end_small : (before : ℕ) (hs : List HardwareOf) (k : ℕ) → end_at before hs k ≤ before + entry_count hs
end_small before [] k = omega arith
end_small before (h ∷ hs) zero = omega arith
end_small before (h ∷ hs) (suc k) = omega (arith, end_small (before + length h.entries) hs k)

find_here : (p : ℕ → Bool) (a n d : ℕ) → p d ≡ true → ((m : ℕ) → a ≤ m → m < d → p m ≡ false) → a ≤ d → d < a + n → find p (range_with_len a n) ≡ Some d
find_here p a zero d t f l u = absurd (omega arith)
find_here p a (suc n) d t f l u = ⊎_elim
    (λ (less : a < d). rw (f a (omega arith) less) (find_here p (a + 1) n d t (λ m x y. f m (omega arith) y) (omega arith) (omega arith)))
    (λ (same : d ≤ a). let e : a ≡ d = omega arith in rw (e, t) refl)
    (cases_lt a d)

-- each entry from i on is its domain's
abbrev pub OwnersAt : Registers → ℕ → ℕ → List HardwareOf → Type 0
OwnersAt r m i [] = Unit {0}
OwnersAt r m i (h ∷ hs) = ((j : ℕ) → i ≤ j → j < i + length h.entries → owner_of r j ≡ Some m) × OwnersAt r (m + 1) (i + length h.entries) hs

pub owners_at : (r : Registers) (m i : ℕ) (hs : List HardwareOf) → m + length hs ≤ r.shape.domains → ((k : ℕ) → k < length hs → bound_of r (m + k) ≡ end_at i hs k) → ((n : ℕ) → n < m → bound_of r n ≤ i) → OwnersAt r m i hs
owners_at r m i [] few bounds below = tt
owners_at r m i (h ∷ hs) few bounds below =
    let z : m + zero ≡ m = omega arith in
    let here : bound_of r m ≡ i + length h.entries = ap (bound_of r) (sym z) ∙ bounds zero (omega arith) in
    let owner : (j : ℕ) → i ≤ j → j < i + length h.entries → owner_of r j ≡ Some m =
    λ j l u. find_here (is_bounded_by r j) 0 r.shape.domains m
    (let q : j < bound_of r m = omega arith in search (nat_tests, arith))
    (λ n a b. let q : bound_of r n ≤ j = omega (arith, below n b) in search (nat_tests, arith))
    (omega arith) (omega arith) in
    let next : (k : ℕ) → k < length hs → bound_of r ((m + 1) + k) ≡ end_at (i + length h.entries) hs k =
    λ k l. let e : (m + 1) + k ≡ m + suc k = omega arith in ap (bound_of r) e ∙ bounds (suc k) (omega arith) in
    let under : (n : ℕ) → n < m + 1 → bound_of r n ≤ i + length h.entries =
    λ n l. ⊎_elim (λ (a : n < m). omega (arith, below n a)) (λ (b : m ≤ n). let e : n ≡ m = omega arith in let f : bound_of r n ≡ bound_of r m = ap (bound_of r) e in omega arith) (cases_lt n m) in
    (owner, owners_at r (m + 1) (i + length h.entries) hs (omega arith) next under)

-- the entries past the last domain's end are nobody's
pub owner_past : (r : Registers) (hs : List HardwareOf) → ((m : ℕ) → m < r.shape.domains → bound_of r m ≡ end_at 0 hs m) → (j : ℕ) → entry_count hs ≤ j → owner_of r j ≡ None
owner_past r hs bounds j past = find_none (is_bounded_by r j) 0 r.shape.domains
    (λ m l u. let q : bound_of r m ≤ j = omega (arith, bounds m (omega arith), end_small 0 hs m) in search (nat_tests, arith))

-- ---- members

pub record IsMemberTable (r : Registers) (m members : ℕ) : Type 0 where
  pub member : (s : ℕ) → s < r.shape.rrids → is_associated r s m ≡ has_bit members s
  pub grants : (s : ℕ) (k : Kind) → s < r.shape.rrids → has_bit members s ≡ true → domain_grants r s m k ≡ true

associated_is : (r : Registers) (s m : ℕ) → s < r.shape.rrids → m < r.shape.domains → is_associated r s m ≡ is_in_table r s m
associated_is r s m p q =
    let a : ltb s r.shape.rrids ≡ true = search (nat_tests, arith) in
    let b : ltb m r.shape.domains ≡ true = search (nat_tests, arith) in
    rw (a, b) refl

pub table_of_enables : (r : Registers) (hs : List HardwareOf) (m : ℕ) → r.shape.srcmd ≡ 0 → r.shape.sps ≡ false → m < length hs → length hs ≤ r.shape.domains
    → ((s : ℕ) → s < r.shape.rrids → ReadsRow r.words (ltb 31 r.shape.domains) s (enable_bits s 0 hs)) → IsMemberTable r m (members_at hs m)
table_of_enables r hs m f n p few rows = record {
  member = λ s l.
      let row = rows s l in
      let t : is_in_table r s m ≡ has_pair_bit (word_at r (1024 + 8 * s)) (word_at r (1025 + 8 * s)) (m + 1) = rw f refl in
      let pair = has_pair_bit-words (word_at r (1024 + 8 * s)) (word_at r (1025 + 8 * s)) (enable_bits s 0 hs) (m + 1) row.low_word (λ g. row.high_word (search (nat_tests, arith))) in
      associated_is r s m l (omega arith) ∙ (t ∙ (pair ∙ enable_member s hs m p));
  grants = λ s k l t. rw (f, n) refl;
}

both_bits : (k : Kind) (a b : Bool) → a ≡ true → b ≡ true → by_kind k a b ≡ true
both_bits Read a b e f = e
both_bits Write a b e f = f
both_bits Fetch a b e f = e

or_same : (a b c : Bool) → a ≡ c → b ≡ c → (a || b) ≡ c
or_same a b true e f = rw e refl
or_same a b false e f = rw (e, f) refl

-- a requester's two bits in the registers of a domain
both_permissions : (r : Registers) (members m s : ℕ) → ReadsRow r.words (ltb 16 r.shape.rrids) m (permissions r.shape.rrids members) → s < r.shape.rrids
    → (has_first_permission r s m ≡ has_bit members s) × (has_second_permission r s m ≡ has_bit members s)
both_permissions r members m s row l =
    let b = permission_member members r.shape.rrids s l in (
      has_pair_bit-words (word_at r (1024 + 8 * m)) (word_at r (1025 + 8 * m)) (permissions r.shape.rrids members) (2 * s) row.low_word (λ g. row.high_word (search (nat_tests, arith))) ∙ b.0,
      has_pair_bit-words (word_at r (1024 + 8 * m)) (word_at r (1025 + 8 * m)) (permissions r.shape.rrids members) (2 * s + 1) row.low_word (λ g. row.high_word (search (nat_tests, arith))) ∙ b.1,
    )

pub table_of_permissions : (r : Registers) (members m : ℕ) → r.shape.srcmd ≡ 2 → m < r.shape.domains → ReadsRow r.words (ltb 16 r.shape.rrids) m (permissions r.shape.rrids members) → IsMemberTable r m members
table_of_permissions r members m f few row = record {
  member = λ s l.
      let t : is_in_table r s m ≡ (has_first_permission r s m || has_second_permission r s m) = rw f refl in
      let b = both_permissions r members m s row l in
      associated_is r s m l few ∙ (t ∙ or_same _ _ (has_bit members s) b.0 b.1);
  grants = λ s k l t.
      let b = both_permissions r members m s row l in
      let g : domain_grants r s m k ≡ by_kind k (has_first_permission r s m) (has_second_permission r s m) = rw f refl in
      g ∙ both_bits k _ _ (b.0 ∙ t) (b.1 ∙ t);
}

-- ---- together

held_entries : (r : Registers) (i : ℕ) (es : List EntryWords) → ReadsEntries r.words i es → HoldsEntries r i es
held_entries r i [] h = tt
held_entries r i (e ∷ es) h = (let a = h.0 in let b = h.1 in omega arith, h.2, held_entries r (i + 1) es h.3)

holds_at : (r : Registers) (m i : ℕ) (hs : List HardwareOf) → OwnersAt r m i hs → ((k : ℕ) → k < length hs → IsMemberTable r (m + k) (members_at hs k)) → HoldsEntries r i (all_entries hs) → Holds r m i hs
holds_at r m i [] owners members es = tt
holds_at r m i (h ∷ hs) owners members es =
    let z : m + zero ≡ m = omega arith in
    let here = subst (λ n. IsMemberTable r n h.members) z (members zero (omega arith)) in
    let parts = entries_split r i h.entries (all_entries hs) es in
    let rest = holds_at r (m + 1) (i + length h.entries) hs owners.1 (λ k l. let e : m + suc k ≡ (m + 1) + k = omega arith in subst (λ n. IsMemberTable r n (members_at hs k)) e (members (suc k) (omega arith))) parts.1 in
    (record { owner = owners.0; member = here.member; grants = here.grants; entries = parts.0 }, rest)

-- Registers whose words are those of the tables hold the domains.
pub holds_all : (r : Registers) (hs : List HardwareOf) → length hs ≤ r.shape.domains → ((m : ℕ) → m < r.shape.domains → bound_of r m ≡ end_at 0 hs m) → ((k : ℕ) → k < length hs → IsMemberTable r k (members_at hs k)) → ReadsEntries r.words 0 (all_entries hs) → Holds r 0 0 hs
holds_all r hs few bounds members es =
    let owners = owners_at r 0 0 hs (omega arith) (λ k l. let z : 0 + k ≡ k = omega arith in ap (bound_of r) z ∙ bounds k (omega arith)) (λ n l. absurd (omega arith)) in
    holds_at r 0 0 hs owners (λ k l. let z : k ≡ 0 + k = omega arith in subst (λ n. IsMemberTable r n (members_at hs k)) z (members k l)) (held_entries r 0 (all_entries hs) es)
