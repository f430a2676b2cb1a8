-- What words read after the writes of tables.
use Rattle.std.proofs.Common.{◌≡◌, ℕ, zero, suc, ◌+◌, ◌*◌, ◌/◌, ◌%◌, ◌^◌, ◌<◌, ◌≤◌, ◌⊎◌, inl, List, [], ◌∷◌, ◌++◌, length, get_or, set, arith, refl, sym, ap, ◌∙◌, ⊎_elim}
use Rattle.std.specs.List.{AllByRecursion}
use Rattle.std.proofs.Math.ListN.{length-set}
use Rattle.std.proofs.lemmas.List.{get_or-set_same, get_or-set_other}
use Rattle.policy_compiler.specs.declared.image.RegPair.{RegPair}
use Rattle.policy_compiler.specs.declared.hardware.EntryWords.{EntryWords}
use Rattle.policy_compiler.specs.Images.{HardwareOf, pair, mdcfg_writes, entry_writes, hardware_writes}
use Rattle.policy_compiler.proofs.Plain.{puts}

-- ---- indexes that writes leave alone

abbrev pub IsWithin : ℕ → ℕ → RegPair → Type 0
IsWithin low high p = (low ≤ p.index) × (p.index < high)

abbrev pub AreWithin : ℕ → ℕ → List RegPair → Type 0
AreWithin low high ps = AllByRecursion (IsWithin low high) ps

-- an index below the writes or above them keeps its word
pub untouched : (ws : List ℕ) (ps : List RegPair) (low high i : ℕ) → AreWithin low high ps → (i < low) ⊎ (high ≤ i) → get_or (puts ws ps) i 0 ≡ get_or ws i 0
untouched ws [] low high i all out = refl
untouched ws (p ∷ ps) low high i all out =
    untouched (set ws p.index p.value) ps low high i all.1 out
    ∙ get_or-set_other ws p.index i p.value 0 (λ e. ⊎_elim (λ (l : i < low). let w = all.0 in omega arith) (λ (u : high ≤ i). let w = all.0 in omega arith) out)

pub length_puts : (ws : List ℕ) (ps : List RegPair) → length (puts ws ps) ≡ length ws
length_puts ws [] = refl
length_puts ws (p ∷ ps) = length_puts (set ws p.index p.value) ps ∙ length-set ws p.index p.value

pub puts_append : (ws : List ℕ) (ps qs : List RegPair) → puts ws (ps ++ qs) ≡ puts (puts ws ps) qs
puts_append ws [] qs = refl
puts_append ws (p ∷ ps) qs = puts_append (set ws p.index p.value) ps qs

pub append_within : (low high : ℕ) (ps qs : List RegPair) → AreWithin low high ps → AreWithin low high qs → AreWithin low high (ps ++ qs)
append_within low high [] qs a b = b
append_within low high (p ∷ ps) qs a b = (a.0, append_within low high ps qs a.1 b)

pub mdcfg_within : (m before : ℕ) (hs : List HardwareOf) (low high : ℕ) → low ≤ 512 + m → 512 + (m + length hs) ≤ high → AreWithin low high (mdcfg_writes m before hs)
mdcfg_within m before [] low high p q = tt
mdcfg_within m before (h ∷ hs) low high p q = ((omega arith, omega arith), mdcfg_within (m + 1) (before + length h.entries) hs low high (omega arith) (omega arith))

pub entries_within : (i : ℕ) (es : List EntryWords) (low high : ℕ) → low ≤ 2048 + 4 * i → 2048 + 4 * (i + length es) ≤ high → AreWithin low high (entry_writes i es)
entries_within i [] low high p q = tt
entries_within i (e ∷ es) low high p q = ((omega arith, omega arith), ((omega arith, omega arith), ((omega arith, omega arith), entries_within (i + 1) es low high (omega arith) (omega arith))))

-- ---- MDCFG

-- the end of domain k of these, after the entries before them; 0 past the last
abbrev pub end_at : ℕ → List HardwareOf → ℕ → ℕ
end_at before [] k = 0
end_at before (h ∷ hs) zero = before + length h.entries
end_at before (h ∷ hs) (suc k) = end_at (before + length h.entries) hs k

pub mdcfg_read : (ws : List ℕ) (m before : ℕ) (hs : List HardwareOf) (k : ℕ) → 512 + (m + length hs) ≤ length ws → (length hs ≤ k → get_or ws (512 + (m + k)) 0 ≡ 0) → get_or (puts ws (mdcfg_writes m before hs)) (512 + (m + k)) 0 ≡ end_at before hs k
mdcfg_read ws m before [] k room reset = reset (omega arith)
mdcfg_read ws m before (h ∷ hs) zero room reset =
    let e : 512 + (m + zero) ≡ 512 + m = omega arith in
    ap (λ i. get_or (puts (set ws (512 + m) (before + length h.entries)) (mdcfg_writes (m + 1) (before + length h.entries) hs)) i 0) e
    ∙ (untouched (set ws (512 + m) (before + length h.entries)) (mdcfg_writes (m + 1) (before + length h.entries) hs) (512 + (m + 1)) (512 + ((m + 1) + length hs)) (512 + m)
    (mdcfg_within (m + 1) (before + length h.entries) hs (512 + (m + 1)) (512 + ((m + 1) + length hs)) (omega arith) (omega arith)) (inl (omega arith))
    ∙ get_or-set_same ws (512 + m) (before + length h.entries) 0 (omega arith))
mdcfg_read ws m before (h ∷ hs) (suc k) room reset =
    let e : 512 + (m + suc k) ≡ 512 + ((m + 1) + k) = omega arith in
    let v = before + length h.entries in
    let keeps : (length hs ≤ k → get_or (set ws (512 + m) (before + length h.entries)) (512 + ((m + 1) + k)) 0 ≡ 0) =
    λ l. get_or-set_other ws (512 + m) (512 + ((m + 1) + k)) (before + length h.entries) 0 (λ q. absurd (omega arith)) ∙ (ap (λ i. get_or ws i 0) (sym e) ∙ reset (omega arith)) in
    ap (λ i. get_or (puts (set ws (512 + m) (before + length h.entries)) (mdcfg_writes (m + 1) (before + length h.entries) hs)) i 0) e
    ∙ mdcfg_read (set ws (512 + m) (before + length h.entries)) (m + 1) (before + length h.entries) hs k (omega (arith, length-set ws (512 + m) (before + length h.entries))) keeps

-- ---- members

-- the members of domain k of these
abbrev pub members_at : List HardwareOf → ℕ → ℕ
members_at [] k = 0
members_at (h ∷ hs) zero = h.members
members_at (h ∷ hs) (suc k) = members_at hs k

-- ---- entries

-- all entries, domain after domain
abbrev pub all_entries : List HardwareOf → List EntryWords
all_entries [] = []
all_entries (h ∷ hs) = h.entries ++ all_entries hs

pub entry_writes_append : (i : ℕ) (es fs : List EntryWords) → entry_writes i (es ++ fs) ≡ entry_writes i es ++ entry_writes (i + length es) fs
entry_writes_append i [] fs = let e : i ≡ i + 0 = omega arith in ap (λ k. entry_writes k fs) e
entry_writes_append i (e ∷ es) fs =
    let p : (i + 1) + length es ≡ i + suc (length es) = omega arith in
    let rest = entry_writes_append (i + 1) es fs ∙ ap (λ k. entry_writes (i + 1) es ++ entry_writes k fs) p in
    ap (λ ps. pair (2048 + 4 * i) (e.word % 2 ^ 32) ∷ pair (2049 + 4 * i) (e.word / 2 ^ 32) ∷ pair (2050 + 4 * i) e.cfg ∷ ps) rest

pub hardware_entries : (i : ℕ) (hs : List HardwareOf) → hardware_writes i hs ≡ entry_writes i (all_entries hs)
hardware_entries i [] = refl
hardware_entries i (h ∷ hs) = ap (λ ps. entry_writes i h.entries ++ ps) (hardware_entries (i + length h.entries) hs) ∙ sym (entry_writes_append i h.entries (all_entries hs))

-- the words of entries from i on
abbrev pub ReadsEntries : List ℕ → ℕ → List EntryWords → Type 0
ReadsEntries ws i [] = Unit {0}
ReadsEntries ws i (e ∷ es) =
    (get_or ws (2048 + 4 * i) 0 ≡ e.word % 2 ^ 32) × (get_or ws (2049 + 4 * i) 0 ≡ e.word / 2 ^ 32) × (get_or ws (2050 + 4 * i) 0 ≡ e.cfg) × ReadsEntries ws (i + 1) es

abbrev three : List ℕ → ℕ → EntryWords → List ℕ
three ws i e = set (set (set ws (2048 + 4 * i) (e.word % 2 ^ 32)) (2049 + 4 * i) (e.word / 2 ^ 32)) (2050 + 4 * i) e.cfg

length_three : (ws : List ℕ) (i : ℕ) (e : EntryWords) → length (three ws i e) ≡ length ws
length_three ws i e =
    length-set (set (set ws (2048 + 4 * i) (e.word % 2 ^ 32)) (2049 + 4 * i) (e.word / 2 ^ 32)) (2050 + 4 * i) e.cfg
    ∙ (length-set (set ws (2048 + 4 * i) (e.word % 2 ^ 32)) (2049 + 4 * i) (e.word / 2 ^ 32) ∙ length-set ws (2048 + 4 * i) (e.word % 2 ^ 32))

three_read : (ws : List ℕ) (i : ℕ) (e : EntryWords) → 2048 + 4 * (i + 1) ≤ length ws + 1
    → (get_or (three ws i e) (2048 + 4 * i) 0 ≡ e.word % 2 ^ 32) × (get_or (three ws i e) (2049 + 4 * i) 0 ≡ e.word / 2 ^ 32) × (get_or (three ws i e) (2050 + 4 * i) 0 ≡ e.cfg)
three_read ws i e room =
    let a = set ws (2048 + 4 * i) (e.word % 2 ^ 32) in
    let la = length-set ws (2048 + 4 * i) (e.word % 2 ^ 32) in
    let b = set (set ws (2048 + 4 * i) (e.word % 2 ^ 32)) (2049 + 4 * i) (e.word / 2 ^ 32) in
    let lb = length-set (set ws (2048 + 4 * i) (e.word % 2 ^ 32)) (2049 + 4 * i) (e.word / 2 ^ 32) in (
      get_or-set_other (set (set ws (2048 + 4 * i) (e.word % 2 ^ 32)) (2049 + 4 * i) (e.word / 2 ^ 32)) (2050 + 4 * i) (2048 + 4 * i) e.cfg 0 (λ q. absurd (omega arith))
          ∙ (get_or-set_other (set ws (2048 + 4 * i) (e.word % 2 ^ 32)) (2049 + 4 * i) (2048 + 4 * i) (e.word / 2 ^ 32) 0 (λ q. absurd (omega arith)) ∙ get_or-set_same ws (2048 + 4 * i) (e.word % 2 ^ 32) 0 (omega arith)),
      get_or-set_other (set (set ws (2048 + 4 * i) (e.word % 2 ^ 32)) (2049 + 4 * i) (e.word / 2 ^ 32)) (2050 + 4 * i) (2049 + 4 * i) e.cfg 0 (λ q. absurd (omega arith))
          ∙ get_or-set_same (set ws (2048 + 4 * i) (e.word % 2 ^ 32)) (2049 + 4 * i) (e.word / 2 ^ 32) 0 (omega arith),
      get_or-set_same (set (set ws (2048 + 4 * i) (e.word % 2 ^ 32)) (2049 + 4 * i) (e.word / 2 ^ 32)) (2050 + 4 * i) e.cfg 0 (omega arith),
    )

pub entries_read : (ws : List ℕ) (i : ℕ) (es : List EntryWords) → 2048 + 4 * (i + length es) ≤ length ws → ReadsEntries (puts ws (entry_writes i es)) i es
entries_read ws i [] room = tt
entries_read ws i (e ∷ es) room =
    let here = three_read ws i e (omega arith) in
    let rest = entries_read (three ws i e) (i + 1) es (omega (arith, length_three ws i e)) in
    let within = entries_within (i + 1) es (2048 + 4 * (i + 1)) (2048 + 4 * ((i + 1) + length es)) (omega arith) (omega arith) in (
      untouched (three ws i e) (entry_writes (i + 1) es) (2048 + 4 * (i + 1)) (2048 + 4 * ((i + 1) + length es)) (2048 + 4 * i) within (inl (omega arith)) ∙ here.0,
      untouched (three ws i e) (entry_writes (i + 1) es) (2048 + 4 * (i + 1)) (2048 + 4 * ((i + 1) + length es)) (2049 + 4 * i) within (inl (omega arith)) ∙ here.1,
      untouched (three ws i e) (entry_writes (i + 1) es) (2048 + 4 * (i + 1)) (2048 + 4 * ((i + 1) + length es)) (2050 + 4 * i) within (inl (omega arith)) ∙ here.2,
      rest,
    )
