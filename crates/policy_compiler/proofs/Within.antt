-- The writes of an image are of registers that lie below the last entry's end, and their values are words.
use Rattle.std.proofs.Common.{◌≡◌, ℕ, zero, suc, ◌^◌, ◌+◌, ◌*◌, ◌<◌, ◌≤◌, ◌⊎◌, inl, inr, Bool, true, false, ltb, List, [], ◌∷◌, ◌++◌, length, None, Some, if◌then◌else◌, arith, refl}
use Rattle.std.specs.List.{AllByRecursion}
use Rattle.std.proofs.Math.Pow.{pow_mono}
use Rattle.std.proofs.lemmas.Bool.Decides.{nat_tests}
use Rattle.event_words.specs.declared.shape.Shape.{Shape}
use Rattle.event_words.specs.Registers.{index_count}
use Rattle.policy_compiler.specs.declared.image.RegPair.{RegPair}
use Rattle.policy_compiler.specs.declared.hardware.EntryWords.{EntryWords}
use Rattle.policy_compiler.specs.declared.image.CompileError.TheVariants.{TooManyDomains, TooManyEntries}
use Rattle.policy_compiler.specs.declared.read.rules.RuleKind.TheVariants.{Guards, Grants}
use Rattle.policy_compiler.specs.Policies.{PolicyOf, IsPolicy, IsPolicyShape}
use Rattle.policy_compiler.specs.Images.{entry_writes, HardwareOf, hardware, hardware_of, mdcfg_writes, member_writes, hardware_writes, writes_of, image_of, entry_count}
use Rattle.policy_compiler.specs.Needs.{need_domains, need_entries, need_refusal}
use Rattle.policy_compiler.proofs.Fits.{fits_in, count_append, domains_have_rules}
use Rattle.policy_compiler.proofs.Puts.{AreWithin, all_entries, append_within, mdcfg_within, entries_within, hardware_entries}
use Rattle.policy_compiler.proofs.SrcmdRows.{row_writes, enable_rows, permission_rows, length_enables, length_permissions, rows_within}
use Rattle.policy_compiler.proofs.PlainWrites.{length_all, AreEntries, both_good, permissions_small}
use Rattle.policy_compiler.proofs.Masks.{enables_mask, mask_small}
use Rattle.policy_compiler.proofs.Compiled.{format_of, members_0, members_2, fit_entries}

members_within : (h : Shape) (hs : List HardwareOf) → IsPolicyShape h → length hs ≤ 63 → (h.srcmd ≡ 0) ⊎ (h.srcmd ≡ 2) → AreWithin 0 (index_count h) (member_writes h hs)
members_within h hs good few (inl f) =
    let r = good.valid.rrids in
    let l = length_enables hs 0 h.rrids in
    rw (members_0 h hs f) (rows_within (ltb 31 h.domains) 0 (enable_rows hs 0 h.rrids) 0 (index_count h) (omega arith) (omega arith))
members_within h hs good few (inr f) =
    let l = length_permissions h.rrids hs in
    rw (members_2 h hs f) (rows_within (ltb 16 h.rrids) 0 (permission_rows h.rrids hs) 0 (index_count h) (omega arith) (omega arith))

entries_below : (h : Shape) (hs : List HardwareOf) → entry_count hs ≤ h.entries → AreWithin 0 (index_count h) (hardware_writes 0 hs)
entries_below h hs few = rw (hardware_entries 0 hs) (let n = length_all hs in entries_within 0 (all_entries hs) 0 (index_count h) (omega arith) (omega arith))

writes_within : (h : Shape) (guards : ℕ) (hs : List HardwareOf) → IsPolicyShape h → length hs ≤ 63 → entry_count hs ≤ h.entries → AreWithin 0 (index_count h) (writes_of h guards hs)
unfolding writes_of
writes_within h guards hs good few fits = (
  (omega arith, omega arith),
  append_within 0 (index_count h) (mdcfg_writes 0 0 hs) (member_writes h hs ++ (hardware_writes 0 hs ++ _)) (mdcfg_within 0 0 hs 0 (index_count h) (omega arith) (omega arith))
      (append_within 0 (index_count h) (member_writes h hs) (hardware_writes 0 hs ++ _) (members_within h hs good few (format_of h good))
      (append_within 0 (index_count h) (hardware_writes 0 hs) _ (entries_below h hs fits) ((omega arith, omega arith), tt))),
)

pub none_needed : (p : PolicyOf) → need_refusal p ≡ None → (need_domains p ≤ p.shape.domains) × (need_entries p ≤ p.shape.entries)
unfolding need_refusal
none_needed p e = by_tests (ltb p.shape.domains (need_domains p)) (ltb p.shape.entries (need_entries p)) refl refl e
  where
    by_tests : (a b : Bool) → ltb p.shape.domains (need_domains p) ≡ a → ltb p.shape.entries (need_entries p) ≡ b
        → (if a then Some (TooManyDomains (need_domains p) p.shape.domains) else (if b then Some (TooManyEntries (need_entries p) p.shape.entries) else None)) ≡ None
        → (need_domains p ≤ p.shape.domains) × (need_entries p ≤ p.shape.entries)
    by_tests true b s t q = absurd (cc)
    by_tests false true s t q = absurd (cc)
    by_tests false false s t q = (grind (arith, nat_tests), grind (arith, nat_tests))

-- The image of a policy that fits its unit writes registers below the last entry's end.
pub image_within : (p : PolicyOf) → IsPolicy p → need_refusal p ≡ None → AreWithin 0 (index_count p.shape) (image_of p).writes
unfolding image_of
image_within p good e =
    let fits = none_needed p e in
    let m = fits_in p good fits.0 fits.1 in
    writes_within p.shape (entry_count (hardware_of Guards p.domains)) (hardware p.domains) good.shape m.domains (omega (arith, fit_entries p, fits.1))

-- ---- the values are words of 32 bits

abbrev pub IsWord : RegPair → Type 0
IsWord w = w.value < 2 ^ 32

abbrev pub AreWords : List RegPair → Type 0
AreWords ws = AllByRecursion IsWord ws

append_words : (ps qs : List RegPair) → AreWords ps → AreWords qs → AreWords (ps ++ qs)
append_words [] qs a b = b
append_words (p ∷ ps) qs a b = (a.0, append_words ps qs a.1 b)

mdcfg_words : (m before : ℕ) (hs : List HardwareOf) → before + entry_count hs < 2 ^ 32 → AreWords (mdcfg_writes m before hs)
mdcfg_words m before [] small = tt
mdcfg_words m before (h ∷ hs) small = (omega arith, mdcfg_words (m + 1) (before + length h.entries) hs (omega arith))

-- a number of 64 bits has two words
abbrev AreDoubles : List ℕ → Type 0
AreDoubles ns = AllByRecursion (λ n. n < 2 ^ 64) ns

rows_words : (high : Bool) (k : ℕ) (ns : List ℕ) → AreDoubles ns → AreWords (row_writes high k ns)
rows_words high k [] small = tt
rows_words true k (n ∷ ns) small = let s = small.0 in (omega arith, (omega arith, rows_words true (k + 1) ns small.1))
rows_words false k (n ∷ ns) small = (omega arith, rows_words false (k + 1) ns small.1)

enables_small : (hs : List HardwareOf) (s n : ℕ) → length hs ≤ 63 → AreDoubles (enable_rows hs s n)
enables_small hs s zero few = tt
enables_small hs s (suc n) few =
    let e = enables_mask s 0 hs in
    let m = mask_small s hs in
    let p : 2 ^ length hs ≤ 2 ^ 63 = pow_mono {j = 63} few in
    (omega arith, enables_small hs (s + 1) n few)

permissions_fit : (rrids : ℕ) (hs : List HardwareOf) → rrids ≤ 32 → AreDoubles (permission_rows rrids hs)
permissions_fit rrids [] few = tt
permissions_fit rrids (h ∷ hs) few =
    let q : 2 * rrids ≤ 64 = omega arith in
    let p : 2 ^ (2 * rrids) ≤ 2 ^ 64 = pow_mono {j = 64} q in
    let small = permissions_small rrids h.members in
    (omega arith, permissions_fit rrids hs few)

entries_words : (i : ℕ) (es : List EntryWords) → AreEntries es → AreWords (entry_writes i es)
entries_words i [] good = tt
entries_words i (e ∷ es) good = let w = good.0.word in let c = good.0.cfg in (omega arith, (omega arith, (omega arith, entries_words (i + 1) es good.1)))

members_words : (h : Shape) (hs : List HardwareOf) → IsPolicyShape h → length hs ≤ 63 → (h.srcmd ≡ 0) ⊎ (h.srcmd ≡ 2) → AreWords (member_writes h hs)
members_words h hs good few (inl f) = rw (members_0 h hs f) (rows_words (ltb 31 h.domains) 0 (enable_rows hs 0 h.rrids) (enables_small hs 0 h.rrids few))
members_words h hs good few (inr f) = rw (members_2 h hs f) (rows_words (ltb 16 h.rrids) 0 (permission_rows h.rrids hs) (permissions_fit h.rrids hs (good.valid.srcmd_rrids f)))

writes_words : (h : Shape) (guards : ℕ) (hs : List HardwareOf) → IsPolicyShape h → guards ≤ 1024 → length hs ≤ 63 → entry_count hs ≤ 1024 → AreEntries (all_entries hs) → AreWords (writes_of h guards hs)
unfolding writes_of
writes_words h guards hs good g few fits entries = (
  omega arith,
  append_words (mdcfg_writes 0 0 hs) (member_writes h hs ++ (hardware_writes 0 hs ++ _)) (mdcfg_words 0 0 hs (omega arith))
      (append_words (member_writes h hs) (hardware_writes 0 hs ++ _) (members_words h hs good few (format_of h good))
      (append_words (hardware_writes 0 hs) _ (rw (hardware_entries 0 hs) (entries_words 0 (all_entries hs) entries)) (omega arith, tt))),
)

-- The image of a policy that fits its unit writes words of 32 bits.
pub image_words : (p : PolicyOf) → IsPolicy p → need_refusal p ≡ None → AreWords (image_of p).writes
unfolding image_of
image_words p good e =
    let fits = none_needed p e in
    let m = fits_in p good fits.0 fits.1 in
    let total = count_append (hardware_of Guards p.domains) (hardware_of Grants p.domains) in
    let n = m.entries in
    writes_words p.shape (entry_count (hardware_of Guards p.domains)) (hardware p.domains) good.shape (omega arith) m.domains m.entries (both_good p.domains (domains_have_rules p good))
