-- A write of an image changes its one word to the value that it writes: no lock is set.
use Rattle.std.proofs.Common.{◌≡◌, ℕ, ◌+◌, ◌-◌, ◌*◌, ◌/◌, ◌%◌, ◌^◌, ◌<◌, ◌≤◌, true, ltb, List, [], ◌∷◌, ◌++◌, length, Some, bit_or, min, get_or, set, arith, refl, sym, ap, ◌∙◌, subst, ⊎_elim}
use Rattle.std.specs.List.{AllByRecursion}
use Rattle.std.proofs.Math.Nat.{mod-eq_of_lt}
use Rattle.std.proofs.Math.Pow.{pow_mono}
use Rattle.std.proofs.Math.ListN.{length-set}
use Rattle.std.proofs.lemmas.Nat.{pow_pos}
use Rattle.std.proofs.lemmas.List.{get_or-set_same, get_or-set_other, get_or_past}
use Rattle.std.proofs.lemmas.Bool.{cases_eq, cases_lt}
use Rattle.std.proofs.lemmas.Bool.Decides.{nat_tests}
use Rattle.event_words.specs.declared.shape.Shape.{Shape}
use Rattle.event_words.specs.declared.register.Register.{Register}
use Rattle.event_words.specs.declared.register.Register.TheVariants.{Mdcfg, SrcmdEn, SrcmdEnh, SrcmdPerm, SrcmdPermh, EntryAddr, EntryAddrh, EntryCfg}
use Rattle.event_words.specs.Registers.{Registers, word_at, index_of, register_at, has_register, set_word, reset_word, index_count}
use Rattle.event_words.proofs.Indexes.{register_at-there, register_at-EntryAddr, register_at-EntryAddrh, register_at-EntryCfg}
use Rattle.policy_compiler.specs.declared.image.RegPair.{RegPair}
use Rattle.policy_compiler.specs.Policies.{IsPolicyShape}
use Rattle.policy_compiler.specs.Images.{pair}
use Rattle.policy_compiler.specs.Laws.{guarded_write, after_writes}
use Rattle.policy_compiler.proofs.Unguarded.{low_unlocked, high_unlocked, permission_unlocked, mdcfg_unlocked, entry_unlocked, plain_write}

-- no lock is set
pub record IsUnlocked (h : Shape) (r : Registers) : Type 0 where
  pub shape : r.shape ≡ h
  pub len : length r.words ≡ index_count h
  pub mdlck : word_at r 16 ≡ 0
  pub mdlckh : word_at r 17 ≡ 0
  pub mdcfglck : word_at r 18 ≡ 0
  pub entrylck : word_at r 19 ≡ 0
  pub enables : h.srcmd ≡ 0 → (s : ℕ) → s < 64 → word_at r (1024 + 8 * s) % 2 ≡ 0

-- no lock is set, and the unit isn't enabled
pub record IsCalm (h : Shape) (r : Registers) : Type 0 where
  pub shape : r.shape ≡ h
  pub len : length r.words ≡ index_count h
  pub mdlck : word_at r 16 ≡ 0
  pub mdlckh : word_at r 17 ≡ 0
  pub mdcfglck : word_at r 18 ≡ 0
  pub entrylck : word_at r 19 ≡ 0
  pub hwcfg0 : word_at r 2 ≡ reset_word h 2
  pub enables : h.srcmd ≡ 0 → (s : ℕ) → s < 64 → word_at r (1024 + 8 * s) % 2 ≡ 0

pub unlocked : (h : Shape) (r : Registers) → IsCalm h r → IsUnlocked h r
unlocked h r c = record { shape = c.shape; len = c.len; mdlck = c.mdlck; mdlckh = c.mdlckh; mdcfglck = c.mdcfglck; entrylck = c.entrylck; enables = c.enables }

-- a write of a table register that changes its word alone, and so does a write of 0
pub record IsPlain (h : Shape) (w : RegPair) : Type 0 where
  pub alone : (r : Registers) → IsUnlocked h r → guarded_write r w ≡ set_word r w.index w.value
  pub cleared : (r : Registers) → IsUnlocked h r → guarded_write r (pair w.index 0) ≡ set_word r w.index 0
  pub table : 512 ≤ w.index
  pub inside : w.index < index_count h
  pub even : h.srcmd ≡ 0 → (s : ℕ) → s < 64 → w.index ≡ 1024 + 8 * s → w.value % 2 ≡ 0

pub set_even : (ws : List ℕ) (i j v : ℕ) → get_or ws j 0 % 2 ≡ 0 → (i ≡ j → v % 2 ≡ 0) → get_or (set ws i v) j 0 % 2 ≡ 0
set_even ws i j v old new = ⊎_elim
    (λ (e : j ≡ i). ⊎_elim
    (λ (below : i < length ws). rw (e, get_or-set_same ws i v 0 below) (new (sym e)))
    (λ (past : length ws ≤ i). let o : length (set ws i v) ≤ j = omega (arith, length-set ws i v) in rw (get_or_past (set ws i v) j 0 o) refl)
    (cases_lt i (length ws)))
    (λ (ne : j ≡ i → ⊥). rw (get_or-set_other ws i j v 0 ne) old)
    (cases_eq j i)

-- a word beside the one that is set
pub other : (ws : List ℕ) (i j v : ℕ) → (j ≡ i → ⊥) → get_or (set ws i v) j 0 ≡ get_or ws j 0
other ws i j v ne = get_or-set_other ws i j v 0 ne

calm_set : (h : Shape) (r : Registers) (i v : ℕ) → 20 ≤ i → (h.srcmd ≡ 0 → (s : ℕ) → s < 64 → i ≡ 1024 + 8 * s → v % 2 ≡ 0) → IsCalm h r → IsCalm h (set_word r i v)
calm_set h r i v high even c = record {
  shape = c.shape;
  len = length-set r.words i v ∙ c.len;
  mdlck = other r.words i 16 v (λ e. absurd (omega arith)) ∙ c.mdlck;
  mdlckh = other r.words i 17 v (λ e. absurd (omega arith)) ∙ c.mdlckh;
  mdcfglck = other r.words i 18 v (λ e. absurd (omega arith)) ∙ c.mdcfglck;
  entrylck = other r.words i 19 v (λ e. absurd (omega arith)) ∙ c.entrylck;
  hwcfg0 = other r.words i 2 v (λ e. absurd (omega arith)) ∙ c.hwcfg0;
  enables = λ f s l. set_even r.words i (1024 + 8 * s) v (c.enables f s l) (even f s l);
}

-- ---- many writes

abbrev pub puts : List ℕ → List RegPair → List ℕ
puts ws [] = ws
puts ws (p ∷ ps) = puts (set ws p.index p.value) ps

-- ---- the registers of tables

there : (h : Shape) (r : Registers) (q : Register) → IsPolicyShape h → r.shape ≡ h → has_register h q ≡ true → register_at r.shape (index_of q) ≡ Some q
there h r q good e t = subst (λ x. register_at x (index_of q) ≡ Some q) (sym e) (register_at-there h q good.valid t)

pub has_mdcfg : (h : Shape) (m : ℕ) → h.mdcfg ≡ 0 → m < h.domains → has_register h (Mdcfg m) ≡ true
has_mdcfg h m f p = let k : ltb m h.domains ≡ true = search (nat_tests, arith) in rw (f, k) refl

has_enable : (h : Shape) (s : ℕ) → h.srcmd ≡ 0 → s < h.rrids → has_register h (SrcmdEn s) ≡ true
has_enable h s f p = let k : ltb s h.rrids ≡ true = search (nat_tests, arith) in rw (f, k) refl

has_permission : (h : Shape) (m : ℕ) → h.srcmd ≡ 2 → m < h.domains → has_register h (SrcmdPerm m) ≡ true
has_permission h m f p = let k : ltb m h.domains ≡ true = search (nat_tests, arith) in rw (f, k) refl

-- ---- the writes of each table

-- a register of a table, but none of SRCMD_EN, each of whose words below a limit is written as it is
plain_below : (h : Shape) (i v limit : ℕ) → ((w : ℕ) → w < limit → (r : Registers) → IsUnlocked h r → guarded_write r (pair i w) ≡ set_word r i w) → v < limit → 512 ≤ i → i < index_count h
    → (h.srcmd ≡ 0 → (s : ℕ) → s < 64 → i ≡ 1024 + 8 * s → ⊥) → IsPlain h (pair i v)
plain_below h i v limit alone small table inside other_index = record {
  alone = alone v small;
  cleared = alone 0 (omega (arith, small));
  table = table;
  inside = inside;
  even = λ f s l e. absurd (other_index f s l e);
}

mdcfg_alone : (h : Shape) (m v : ℕ) → IsPolicyShape h → m < h.domains → v < 2 ^ 16 → (r : Registers) → IsUnlocked h r → guarded_write r (pair (512 + m) v) ≡ set_word r (512 + m) v
mdcfg_alone h m v good p small r c =
    plain_write r (Mdcfg m) (512 + m) v (there h r (Mdcfg m) good c.shape (has_mdcfg h m good.mdcfg p)) (λ k. refl) (mdcfg_unlocked r m (Mdcfg m) c.mdcfglck) (omega arith) (omega arith)

pub plain_mdcfg : (h : Shape) (m v : ℕ) → IsPolicyShape h → m < h.domains → v < 2 ^ 16 → IsPlain h (pair (512 + m) v)
plain_mdcfg h m v good p small =
    let few = good.valid.domains in plain_below h (512 + m) v (2 ^ 16) (λ w l. mdcfg_alone h m w good p l) small (omega arith) (omega arith) (λ f s l e. omega arith)

enable_ruled : (d old v : ℕ) → old % 2 ≡ 0 → v % 2 ≡ 0 → v / 2 < 2 ^ d → ((0 + bit_or (old / 2 ^ 0 % 2 ^ 1) (v / 2 ^ 0 % 2 ^ 1) * 2 ^ 0) + v / 2 ^ 1 % 2 ^ d * 2 ^ 1) ≡ v
enable_ruled d old v e f small =
    let a : old / 2 ^ 0 % 2 ^ 1 ≡ 0 = omega arith in
    let b : v / 2 ^ 0 % 2 ^ 1 ≡ 0 = omega arith in
    let c : v / 2 ^ 1 % 2 ^ d ≡ v / 2 = mod-eq_of_lt small in
    rw (a, b, c) (omega arith)

-- a word whose one field has the bits from 0 on
low_ruled : (n v : ℕ) → v < 2 ^ n → (0 + v / 2 ^ 0 % 2 ^ n * 2 ^ 0) ≡ v
low_ruled n v small =
    let a : v / 2 ^ 0 ≡ v = omega arith in
    let b : v % 2 ^ n ≡ v = mod-eq_of_lt small in
    rw (a, b) (omega arith)

enable_alone : (h : Shape) (s v : ℕ) → IsPolicyShape h → h.srcmd ≡ 0 → s < h.rrids → v % 2 ≡ 0 → v / 2 < 2 ^ (min h.domains 31) → (r : Registers) → IsUnlocked h r → guarded_write r (pair (1024 + 8 * s) v) ≡ set_word r (1024 + 8 * s) v
enable_alone h s v good f p even small r c =
    let d : h.domains ≡ r.shape.domains = sym (ap (λ (x : Shape). x.domains) c.shape) in
    let many = good.valid.rrids in
    let top : 2 ^ (min h.domains 31) ≤ 2 ^ 31 = pow_mono {j = 31} (omega arith) in
    let bit = c.enables f s (omega arith) in
    plain_write r (SrcmdEn s) (1024 + 8 * s) v (there h r (SrcmdEn s) good c.shape (has_enable h s f p)) (λ k. refl) (low_unlocked r s (SrcmdEn s) c.mdlck c.mdlckh bit)
    (enable_ruled (min r.shape.domains 31) (word_at r (1024 + 8 * s)) v bit even (subst (λ n. v / 2 < 2 ^ (min n 31)) d small)) (omega arith)

pub plain_enable : (h : Shape) (s v : ℕ) → IsPolicyShape h → h.srcmd ≡ 0 → s < h.rrids → v % 2 ≡ 0 → v / 2 < 2 ^ (min h.domains 31) → IsPlain h (pair (1024 + 8 * s) v)
plain_enable h s v good f p even small = record {
  alone = enable_alone h s v good f p even small;
  cleared = enable_alone h s 0 good f p (omega arith) (pow_pos (min h.domains 31));
  table = omega arith;
  inside = let many = good.valid.rrids in let some = good.valid.entries in omega arith;
  even = λ f s l e. even;
}

high_enable_alone : (h : Shape) (s v : ℕ) → IsPolicyShape h → h.srcmd ≡ 0 → s < h.rrids → v < 2 ^ (h.domains - 31) → (r : Registers) → IsUnlocked h r → guarded_write r (pair (1025 + 8 * s) v) ≡ set_word r (1025 + 8 * s) v
high_enable_alone h s v good f p small r c =
    let d : h.domains ≡ r.shape.domains = sym (ap (λ (x : Shape). x.domains) c.shape) in
    let few = good.valid.domains in
    let many = good.valid.rrids in
    let top : 2 ^ (h.domains - 31) ≤ 2 ^ 32 = pow_mono {j = 32} (omega arith) in
    let bit = c.enables f s (omega arith) in
    plain_write r (SrcmdEnh s) (1025 + 8 * s) v (there h r (SrcmdEnh s) good c.shape (has_enable h s f p)) (λ k. refl) (high_unlocked r s (SrcmdEnh s) c.mdlck c.mdlckh bit)
    (low_ruled (r.shape.domains - 31) v (subst (λ n. v < 2 ^ (n - 31)) d small)) (omega arith)

pub plain_high_enable : (h : Shape) (s v : ℕ) → IsPolicyShape h → h.srcmd ≡ 0 → s < h.rrids → v < 2 ^ (h.domains - 31) → IsPlain h (pair (1025 + 8 * s) v)
plain_high_enable h s v good f p small =
    let many = good.valid.rrids in
    let some = good.valid.entries in
    plain_below h (1025 + 8 * s) v (2 ^ (h.domains - 31)) (λ w l. high_enable_alone h s w good f p l) small (omega arith) (omega arith) (λ g t l e. omega arith)

permission_alone : (h : Shape) (m v : ℕ) → IsPolicyShape h → h.srcmd ≡ 2 → m < h.domains → v < 2 ^ (2 * min h.rrids 16) → (r : Registers) → IsUnlocked h r → guarded_write r (pair (1024 + 8 * m) v) ≡ set_word r (1024 + 8 * m) v
permission_alone h m v good f p small r c =
    let k : h.rrids ≡ r.shape.rrids = sym (ap (λ (x : Shape). x.rrids) c.shape) in
    let top : 2 ^ (2 * min h.rrids 16) ≤ 2 ^ 32 = pow_mono {j = 32} (omega arith) in
    plain_write r (SrcmdPerm m) (1024 + 8 * m) v (there h r (SrcmdPerm m) good c.shape (has_permission h m f p)) (λ k. refl) (permission_unlocked r m (SrcmdPerm m) c.mdlck c.mdlckh)
    (low_ruled (2 * min r.shape.rrids 16) v (subst (λ n. v < 2 ^ (2 * min n 16)) k small)) (omega arith)

pub plain_permission : (h : Shape) (m v : ℕ) → IsPolicyShape h → h.srcmd ≡ 2 → m < h.domains → v < 2 ^ (2 * min h.rrids 16) → IsPlain h (pair (1024 + 8 * m) v)
plain_permission h m v good f p small =
    let few = good.valid.domains in
    let some = good.valid.entries in
    plain_below h (1024 + 8 * m) v (2 ^ (2 * min h.rrids 16)) (λ w l. permission_alone h m w good f p l) small (omega arith) (omega arith) (λ g s l e. omega arith)

high_permission_alone : (h : Shape) (m v : ℕ) → IsPolicyShape h → h.srcmd ≡ 2 → m < h.domains → v < 2 ^ (2 * (h.rrids - 16)) → (r : Registers) → IsUnlocked h r → guarded_write r (pair (1025 + 8 * m) v) ≡ set_word r (1025 + 8 * m) v
high_permission_alone h m v good f p small r c =
    let k : h.rrids ≡ r.shape.rrids = sym (ap (λ (x : Shape). x.rrids) c.shape) in
    let many = good.valid.srcmd_rrids f in
    let top : 2 ^ (2 * (h.rrids - 16)) ≤ 2 ^ 32 = pow_mono {j = 32} (omega arith) in
    plain_write r (SrcmdPermh m) (1025 + 8 * m) v (there h r (SrcmdPermh m) good c.shape (has_permission h m f p)) (λ k. refl) (permission_unlocked r m (SrcmdPermh m) c.mdlck c.mdlckh)
    (low_ruled (2 * (r.shape.rrids - 16)) v (subst (λ n. v < 2 ^ (2 * (n - 16))) k small)) (omega arith)

pub plain_high_permission : (h : Shape) (m v : ℕ) → IsPolicyShape h → h.srcmd ≡ 2 → m < h.domains → v < 2 ^ (2 * (h.rrids - 16)) → IsPlain h (pair (1025 + 8 * m) v)
plain_high_permission h m v good f p small =
    let few = good.valid.domains in
    let some = good.valid.entries in
    plain_below h (1025 + 8 * m) v (2 ^ (2 * (h.rrids - 16))) (λ w l. high_permission_alone h m w good f p l) small (omega arith) (omega arith) (λ g s l e. omega arith)

pub plain_addr : (h : Shape) (i v : ℕ) → i < h.entries → v < 2 ^ 32 → IsPlain h (pair (2048 + 4 * i) v)
plain_addr h i v p small =
    plain_below h (2048 + 4 * i) v (2 ^ 32)
    (λ w below r c. let n : r.shape.entries ≡ h.entries = ap (λ (x : Shape). x.entries) c.shape in plain_write r (EntryAddr i) (2048 + 4 * i) w (register_at-EntryAddr r.shape i (omega arith)) (λ k. refl) (entry_unlocked r i (EntryAddr i) c.entrylck) (omega arith) (omega arith))
    small (omega arith) (omega arith) (λ f s l e. omega arith)

pub plain_addrh : (h : Shape) (i v : ℕ) → i < h.entries → v < 2 ^ 18 → IsPlain h (pair (2049 + 4 * i) v)
plain_addrh h i v p small =
    plain_below h (2049 + 4 * i) v (2 ^ 18)
    (λ w below r c. let n : r.shape.entries ≡ h.entries = ap (λ (x : Shape). x.entries) c.shape in plain_write r (EntryAddrh i) (2049 + 4 * i) w (register_at-EntryAddrh r.shape i (omega arith)) (λ k. refl) (entry_unlocked r i (EntryAddrh i) c.entrylck) (omega arith) (omega arith))
    small (omega arith) (omega arith) (λ f s l e. omega arith)

pub plain_cfg : (h : Shape) (i v : ℕ) → i < h.entries → v < 2 ^ 5 → IsPlain h (pair (2050 + 4 * i) v)
plain_cfg h i v p small =
    plain_below h (2050 + 4 * i) v (2 ^ 5)
    (λ w below r c. let n : r.shape.entries ≡ h.entries = ap (λ (x : Shape). x.entries) c.shape in plain_write r (EntryCfg i) (2050 + 4 * i) w (register_at-EntryCfg r.shape i (omega arith)) (λ k. refl) (entry_unlocked r i (EntryCfg i) c.entrylck) (omega arith) (omega arith))
    small (omega arith) (omega arith) (λ f s l e. omega arith)

-- ---- lists of writes

abbrev pub ArePlain : Shape → List RegPair → Type 0
ArePlain h ps = AllByRecursion (IsPlain h) ps

-- plain writes change the words that they name, and set no lock
pub record Puts (h : Shape) (r end : Registers) (ps : List RegPair) : Type 0 where
  pub calm : IsCalm h end
  pub words : end.words ≡ puts r.words ps

pub after_plain : (h : Shape) (r : Registers) (ps : List RegPair) → ArePlain h ps → IsCalm h r → Puts h r (after_writes r ps) ps
after_plain h r [] all c = record { calm = c; words = refl }
after_plain h r (p ∷ ps) all c =
    let e = all.0.alone r (unlocked h r c) in
    let d = calm_set h r p.index p.value (let t = all.0.table in omega arith) all.0.even c in
    let rest = after_plain h (set_word r p.index p.value) ps all.1 d in
    record {
      calm = subst (λ x. IsCalm h (after_writes x ps)) (sym e) rest.calm;
      words = ap (λ x. (after_writes x ps).words) e ∙ rest.words;
    }

pub after_append : (r : Registers) (ps qs : List RegPair) → after_writes r (ps ++ qs) ≡ after_writes (after_writes r ps) qs
after_append r [] qs = refl
after_append r (p ∷ ps) qs = after_append (guarded_write r p) ps qs

pub plain_append : (h : Shape) (ps qs : List RegPair) → ArePlain h ps → ArePlain h qs → ArePlain h (ps ++ qs)
plain_append h [] qs a b = b
plain_append h (p ∷ ps) qs a b = (a.0, plain_append h ps qs a.1 b)
