-- What words the SRCMD registers have after their writes, row by row: a low register, and its high one where the unit has it.
use Rattle.std.proofs.Common.{◌≡◌, ℕ, zero, suc, ◌+◌, ◌*◌, ◌/◌, ◌%◌, ◌^◌, ◌<◌, ◌≤◌, inl, Bool, true, false, ltb, List, [], ◌∷◌, ◌++◌, length, get_or, set, arith, refl, sym, ap, ◌∙◌, subst}
use Rattle.std.proofs.Math.ListN.{length-set}
use Rattle.std.proofs.lemmas.List.{get_or-set_same, get_or-set_other}
use Rattle.event_words.specs.declared.register.Register.TheVariants.{SrcmdEn, SrcmdEnh}
use Rattle.policy_compiler.specs.declared.image.RegPair.{RegPair}
use Rattle.policy_compiler.specs.Images.{HardwareOf, pair_writes, enable_bits, enables_of, enable_writes, permissions, permissions_of, permission_writes}
use Rattle.policy_compiler.proofs.Plain.{puts}
use Rattle.policy_compiler.proofs.Puts.{AreWithin, untouched, length_puts, puts_append, members_at}

-- ---- rows

-- the registers of row k, of requester or domain k: the bits of both as one number
abbrev pub row_of : Bool → ℕ → ℕ → List RegPair
row_of high k n = pair_writes (SrcmdEn k) (SrcmdEnh k) high n

-- the rows from row k on
abbrev pub row_writes : Bool → ℕ → List ℕ → List RegPair
row_writes high k [] = []
row_writes high k (n ∷ ns) = row_of high k n ++ row_writes high (k + 1) ns

-- the bits of the n requesters from s on
abbrev pub enable_rows : List HardwareOf → ℕ → ℕ → List ℕ
enable_rows hs s zero = []
enable_rows hs s (suc n) = enable_bits s 0 hs ∷ enable_rows hs (s + 1) n

-- the bits of each domain
abbrev pub permission_rows : ℕ → List HardwareOf → List ℕ
permission_rows rrids [] = []
permission_rows rrids (h ∷ hs) = permissions rrids h.members ∷ permission_rows rrids hs

pub enables_are_rows : (domains : ℕ) (hs : List HardwareOf) (s n : ℕ) → enable_writes domains hs s n ≡ row_writes (ltb 31 domains) s (enable_rows hs s n)
enables_are_rows domains hs s zero = refl
enables_are_rows domains hs s (suc n) = ap (λ ps. enables_of domains hs s ++ ps) (enables_are_rows domains hs (s + 1) n)

pub permissions_are_rows : (rrids m : ℕ) (hs : List HardwareOf) → permission_writes rrids m hs ≡ row_writes (ltb 16 rrids) m (permission_rows rrids hs)
permissions_are_rows rrids m [] = refl
permissions_are_rows rrids m (h ∷ hs) = ap (λ ps. permissions_of rrids m h.members ++ ps) (permissions_are_rows rrids (m + 1) hs)

pub length_enables : (hs : List HardwareOf) (s n : ℕ) → length (enable_rows hs s n) ≡ n
length_enables hs s zero = refl
length_enables hs s (suc n) = omega (arith, length_enables hs (s + 1) n)

pub length_permissions : (rrids : ℕ) (hs : List HardwareOf) → length (permission_rows rrids hs) ≡ length hs
length_permissions rrids [] = refl
length_permissions rrids (h ∷ hs) = omega (arith, length_permissions rrids hs)

pub enables_at : (hs : List HardwareOf) (s n j : ℕ) → j < n → get_or (enable_rows hs s n) j 0 ≡ enable_bits (s + j) 0 hs
enables_at hs s zero j p = absurd (omega arith)
enables_at hs s (suc n) zero p = let e : s ≡ s + zero = omega arith in ap (λ t. enable_bits t 0 hs) e
enables_at hs s (suc n) (suc j) p = let e : (s + 1) + j ≡ s + suc j = omega arith in enables_at hs (s + 1) n j (omega arith) ∙ ap (λ t. enable_bits t 0 hs) e

pub permissions_at : (rrids : ℕ) (hs : List HardwareOf) (j : ℕ) → j < length hs → get_or (permission_rows rrids hs) j 0 ≡ permissions rrids (members_at hs j)
permissions_at rrids [] j p = absurd (omega arith)
permissions_at rrids (h ∷ hs) zero p = refl
permissions_at rrids (h ∷ hs) (suc j) p = permissions_at rrids hs j (omega arith)

-- ---- how many they are, and where

pub rows_count : (high : Bool) (k : ℕ) (ns : List ℕ) → length (row_writes high k ns) ≤ 2 * length ns
rows_count high k [] = omega arith
rows_count true k (n ∷ ns) = omega (arith, rows_count true (k + 1) ns)
rows_count false k (n ∷ ns) = omega (arith, rows_count false (k + 1) ns)

pub rows_within : (high : Bool) (k : ℕ) (ns : List ℕ) (low top : ℕ) → low ≤ 1024 + 8 * k → 1024 + 8 * (k + length ns) ≤ top → AreWithin low top (row_writes high k ns)
rows_within high k [] low top p q = tt
rows_within true k (n ∷ ns) low top p q = ((omega arith, omega arith), ((omega arith, omega arith), rows_within true (k + 1) ns low top (omega arith) (omega arith)))
rows_within false k (n ∷ ns) low top p q = ((omega arith, omega arith), rows_within false (k + 1) ns low top (omega arith) (omega arith))

-- ---- what is read

-- the two words of row k; the high one counts where the unit has it
pub record ReadsRow (ws : List ℕ) (high : Bool) (k n : ℕ) : Type 0 where
  pub low_word : get_or ws (1024 + 8 * k) 0 ≡ n % 2 ^ 32
  pub high_word : high ≡ true → get_or ws (1025 + 8 * k) 0 ≡ n / 2 ^ 32

-- words that agree on the row read the same
pub same_row : (ws us : List ℕ) (high : Bool) (k n : ℕ) → get_or us (1024 + 8 * k) 0 ≡ get_or ws (1024 + 8 * k) 0 → get_or us (1025 + 8 * k) 0 ≡ get_or ws (1025 + 8 * k) 0 → ReadsRow ws high k n → ReadsRow us high k n
same_row ws us high k n e f r = record {
  low_word = e ∙ r.low_word;
  high_word = λ t. f ∙ r.high_word t;
}

row_read : (ws : List ℕ) (high : Bool) (k n : ℕ) → 1025 + 8 * k < length ws → ReadsRow (puts ws (row_of high k n)) high k n
row_read ws true k n room =
    let l = length-set ws (1024 + 8 * k) (n % 2 ^ 32) in
    record {
      low_word = get_or-set_other (set ws (1024 + 8 * k) (n % 2 ^ 32)) (1025 + 8 * k) (1024 + 8 * k) (n / 2 ^ 32) 0 (λ q. absurd (omega arith))
          ∙ get_or-set_same ws (1024 + 8 * k) (n % 2 ^ 32) 0 (omega arith);
      high_word = λ t. get_or-set_same (set ws (1024 + 8 * k) (n % 2 ^ 32)) (1025 + 8 * k) (n / 2 ^ 32) 0 (omega arith);
    }
row_read ws false k n room = record {
  low_word = get_or-set_same ws (1024 + 8 * k) (n % 2 ^ 32) 0 (omega arith);
  high_word = λ t. absurd (let x : false ≡ true = t in cc);
}

pub rows_read : (ws : List ℕ) (high : Bool) (k : ℕ) (ns : List ℕ) (j : ℕ) → j < length ns → 1024 + 8 * (k + length ns) ≤ length ws + 6 → ReadsRow (puts ws (row_writes high k ns)) high (k + j) (get_or ns j 0)
rows_read ws high k [] j p room = absurd (omega arith)
rows_read ws high k (n ∷ ns) zero p room =
    let e : k ≡ k + zero = omega arith in
    let all = rows_within high (k + 1) ns (1024 + 8 * (k + 1)) (1024 + 8 * ((k + 1) + length ns)) (omega arith) (omega arith) in
    let here = row_read ws high k n (omega arith) in
    let kept = same_row (puts ws (row_of high k n)) (puts (puts ws (row_of high k n)) (row_writes high (k + 1) ns)) high k n
    (untouched (puts ws (row_of high k n)) (row_writes high (k + 1) ns) (1024 + 8 * (k + 1)) (1024 + 8 * ((k + 1) + length ns)) (1024 + 8 * k) all (inl (omega arith)))
    (untouched (puts ws (row_of high k n)) (row_writes high (k + 1) ns) (1024 + 8 * (k + 1)) (1024 + 8 * ((k + 1) + length ns)) (1025 + 8 * k) all (inl (omega arith)))
    here in
    subst (λ i. ReadsRow (puts ws (row_of high k n ++ row_writes high (k + 1) ns)) high i n) e
    (subst (λ us. ReadsRow us high k n) (sym (puts_append ws (row_of high k n) (row_writes high (k + 1) ns))) kept)
rows_read ws high k (n ∷ ns) (suc j) p room =
    let e : (k + 1) + j ≡ k + suc j = omega arith in
    let rest = rows_read (puts ws (row_of high k n)) high (k + 1) ns j (omega arith) (omega (arith, length_puts ws (row_of high k n))) in
    subst (λ i. ReadsRow (puts ws (row_of high k n ++ row_writes high (k + 1) ns)) high i (get_or ns j 0)) e
    (subst (λ us. ReadsRow us high (k + 1 + j) (get_or ns j 0)) (sym (puts_append ws (row_of high k n) (row_writes high (k + 1) ns))) rest)
