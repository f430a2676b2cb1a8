-- What the words of the tables read after an image's writes.
use Rattle.std.proofs.Common.{◌≡◌, ℕ, ◌+◌, ◌*◌, ◌^◌, ◌<◌, ◌≤◌, ◌⊎◌, inl, inr, Bool, true, false, ◌==◌, ltb, List, [], ◌∷◌, ◌++◌, length, length-append, append_assoc, get_or, set, arith, refl, sym, ap, ◌∙◌, subst}
use Rattle.std.proofs.Math.ListN.{length-set}
use Rattle.std.proofs.lemmas.List.{get_or-set_same, get_or-set_other}
use Rattle.std.proofs.lemmas.Bool.Decides.{nat_tests}
use Rattle.event_words.specs.declared.shape.Shape.{Shape}
use Rattle.event_words.specs.declared.register.Register.TheVariants.{Mdcfg}
use Rattle.event_words.specs.Registers.{Registers, word_at, bits_of, has_bit, set_word, at_reset, reset_of, index_count}
use Rattle.event_words.specs.Guards.{is_enabled}
use Rattle.event_words.proofs.Indexes.{register_at-there}
use Rattle.event_words.specs.Decisions.{prio_count}
use Rattle.policy_compiler.specs.declared.image.RegPair.{RegPair}
use Rattle.policy_compiler.specs.declared.hardware.EntryWords.{EntryWords}
use Rattle.policy_compiler.specs.declared.read.rules.RuleKind.TheVariants.{Guards, Grants}
use Rattle.policy_compiler.specs.Policies.{PolicyOf, IsPolicy, IsPolicyShape}
use Rattle.policy_compiler.specs.Images.{HardwareOf, hardware, hardware_of, entry_count, pair, mdcfg_writes, enable_bits, permissions, member_writes, hardware_writes, entry_writes, writes_of, image_of}
use Rattle.policy_compiler.specs.Needs.{need_domains, need_entries}
use Rattle.policy_compiler.specs.Laws.{after_writes, registers_after}
use Rattle.policy_compiler.proofs.Fits.{domains_have_rules, count_append, kind_domains, kind_entries}
use Rattle.policy_compiler.proofs.Plain.{puts, Puts, ArePlain, after_plain, after_append, plain_append, has_mdcfg}
use Rattle.policy_compiler.proofs.Ends.{reset_read, calm_reset, calm_prio, prio_word, prio_read, enable_word, enabled_after}
use Rattle.policy_compiler.proofs.Puts.{AreWithin, untouched, length_puts, puts_append, mdcfg_within, entries_within, end_at, mdcfg_read, members_at, all_entries, hardware_entries, ReadsEntries, entries_read}
use Rattle.policy_compiler.proofs.SrcmdRows.{row_writes, enable_rows, permission_rows, enables_are_rows, permissions_are_rows, length_enables, length_permissions, enables_at, permissions_at, rows_within, ReadsRow, same_row, rows_read}
use Rattle.policy_compiler.proofs.PlainWrites.{AreEntries, both_good, length_all, plain_mdcfgs, plain_enables, plain_permissions, plain_entries}

-- ---- the writes between the first and the last

abbrev pub table_writes : Shape → List HardwareOf → List RegPair
table_writes h hs = mdcfg_writes 0 0 hs ++ (member_writes h hs ++ hardware_writes 0 hs)

-- hardware domains that a shape has room for, with entries of 50 bits
pub record HasRoom (h : Shape) (hs : List HardwareOf) : Type 0 where
  pub shape : IsPolicyShape h
  pub domains : length hs ≤ h.domains
  pub entries : entry_count hs ≤ h.entries
  pub good : AreEntries (all_entries hs)

pub format_of : (h : Shape) → IsPolicyShape h → (h.srcmd ≡ 0) ⊎ (h.srcmd ≡ 2)
format_of h good = by_test (h.srcmd == 0) refl
  where
    by_test : (b : Bool) → (h.srcmd == 0) ≡ b → (h.srcmd ≡ 0) ⊎ (h.srcmd ≡ 2)
    by_test true e = inl (grind (arith, nat_tests))
    by_test false e = let t = good.srcmd in let q : (h.srcmd == 2) ≡ true = rw e at t in inr (grind (arith, nat_tests))

pub members_0 : (h : Shape) (hs : List HardwareOf) → h.srcmd ≡ 0 → member_writes h hs ≡ row_writes (ltb 31 h.domains) 0 (enable_rows hs 0 h.rrids)
unfolding member_writes
members_0 h hs f = rw f (enables_are_rows h.domains hs 0 h.rrids)

pub members_2 : (h : Shape) (hs : List HardwareOf) → h.srcmd ≡ 2 → member_writes h hs ≡ row_writes (ltb 16 h.rrids) 0 (permission_rows h.rrids hs)
unfolding member_writes
members_2 h hs f = rw f (permissions_are_rows h.rrids 0 hs)

plain_members : (h : Shape) (hs : List HardwareOf) → HasRoom h hs → (h.srcmd ≡ 0) ⊎ (h.srcmd ≡ 2) → ArePlain h (member_writes h hs)
plain_members h hs room (inl f) = rw (members_0 h hs f) (plain_enables h (ltb 31 h.domains) hs 0 h.rrids room.shape f room.domains (omega arith))
plain_members h hs room (inr f) = rw (members_2 h hs f) (plain_permissions h (ltb 16 h.rrids) 0 hs room.shape f (let d = room.domains in omega arith))

plain_hardware : (h : Shape) (hs : List HardwareOf) → HasRoom h hs → ArePlain h (hardware_writes 0 hs)
plain_hardware h hs room = rw (hardware_entries 0 hs) (plain_entries h 0 (all_entries hs) (let e = length_all hs in let n = room.entries in omega arith) room.good)

pub plain_tables : (h : Shape) (hs : List HardwareOf) → HasRoom h hs → ArePlain h (table_writes h hs)
plain_tables h hs room =
    let few = room.shape.valid.entries in
    let n = room.entries in
    let d = room.domains in
    plain_append h (mdcfg_writes 0 0 hs) (member_writes h hs ++ hardware_writes 0 hs) (plain_mdcfgs h 0 0 hs room.shape (omega arith) (omega arith))
    (plain_append h (member_writes h hs) (hardware_writes 0 hs) (plain_members h hs room (format_of h room.shape)) (plain_hardware h hs room))

-- ---- the registers after all writes

-- after the first write, after the tables, and at the end
abbrev pub first_of : Shape → ℕ → Registers
first_of h g = set_word (at_reset h) 4 (prio_word (at_reset h) g)

abbrev pub tables_of : Shape → ℕ → List HardwareOf → Registers
tables_of h g hs = after_writes (first_of h g) (table_writes h hs)

abbrev pub last_of : Shape → ℕ → List HardwareOf → Registers
last_of h g hs = set_word (tables_of h g hs) 2 (enable_word (tables_of h g hs))

pub writes_split : (h : Shape) (g : ℕ) (hs : List HardwareOf) → writes_of h g hs ≡ pair 4 g ∷ (table_writes h hs ++ pair 2 1 ∷ [])
unfolding writes_of
writes_split h g hs =
    ap (λ ps. pair 4 g ∷ ps)
    (ap (λ ps. mdcfg_writes 0 0 hs ++ ps) (sym (append_assoc (member_writes h hs) (hardware_writes 0 hs) (pair 2 1 ∷ [])))
    ∙ sym (append_assoc (mdcfg_writes 0 0 hs) (member_writes h hs ++ hardware_writes 0 hs) (pair 2 1 ∷ [])))

pub after_is : (h : Shape) (g : ℕ) (hs : List HardwareOf) → after_writes (at_reset h) (writes_of h g hs) ≡ last_of h g hs
after_is h g hs = ap (after_writes (at_reset h)) (writes_split h g hs) ∙ after_append (first_of h g) (table_writes h hs) (pair 2 1 ∷ [])

-- the words after the tables
tables_put : (h : Shape) (g : ℕ) (hs : List HardwareOf) → HasRoom h hs → Puts h (first_of h g) (tables_of h g hs) (table_writes h hs)
tables_put h g hs room = after_plain h (first_of h g) (table_writes h hs) (plain_tables h hs room) (calm_prio h (at_reset h) (prio_word (at_reset h) g) (calm_reset h))

abbrev words_1 : Shape → ℕ → List HardwareOf → List ℕ
words_1 h g hs = puts (first_of h g).words (mdcfg_writes 0 0 hs)

abbrev words_2 : Shape → ℕ → List HardwareOf → List ℕ
words_2 h g hs = puts (words_1 h g hs) (member_writes h hs)

words_are : (h : Shape) (g : ℕ) (hs : List HardwareOf) → HasRoom h hs → (tables_of h g hs).words ≡ puts (words_2 h g hs) (entry_writes 0 (all_entries hs))
words_are h g hs room =
    (tables_put h g hs room).words
    ∙ (puts_append (first_of h g).words (mdcfg_writes 0 0 hs) (member_writes h hs ++ hardware_writes 0 hs)
    ∙ (puts_append (words_1 h g hs) (member_writes h hs) (hardware_writes 0 hs) ∙ ap (puts (words_2 h g hs)) (hardware_entries 0 hs)))

first_length : (h : Shape) (g : ℕ) → length (first_of h g).words ≡ index_count h
first_length h g = length-set (at_reset h).words 4 (prio_word (at_reset h) g) ∙ (calm_reset h).len

-- a word of no entry is the one before the entries' writes, and so on
last_read : (h : Shape) (g : ℕ) (hs : List HardwareOf) (i : ℕ) → HasRoom h hs → (i ≡ 2 → ⊥) → i < 2048 → word_at (last_of h g hs) i ≡ get_or (words_2 h g hs) i 0
last_read h g hs i room ne low =
    get_or-set_other (tables_of h g hs).words 2 i (enable_word (tables_of h g hs)) 0 ne
    ∙ (ap (λ ws. get_or ws i 0) (words_are h g hs room)
    ∙ untouched (words_2 h g hs) (entry_writes 0 (all_entries hs)) 2048 (2048 + 4 * (0 + length (all_entries hs))) i (entries_within 0 (all_entries hs) 2048 (2048 + 4 * (0 + length (all_entries hs))) (omega arith) (omega arith)) (inl low))

members_within : (h : Shape) (hs : List HardwareOf) → HasRoom h hs → (h.srcmd ≡ 0) ⊎ (h.srcmd ≡ 2) → AreWithin 1024 2048 (member_writes h hs)
members_within h hs room (inl f) =
    let n = room.shape.valid.rrids in
    let l = length_enables hs 0 h.rrids in
    rw (members_0 h hs f) (rows_within (ltb 31 h.domains) 0 (enable_rows hs 0 h.rrids) 1024 2048 (omega arith) (omega arith))
members_within h hs room (inr f) =
    let n = room.shape.valid.domains in
    let d = room.domains in
    let l = length_permissions h.rrids hs in
    rw (members_2 h hs f) (rows_within (ltb 16 h.rrids) 0 (permission_rows h.rrids hs) 1024 2048 (omega arith) (omega arith))

low_read : (h : Shape) (g : ℕ) (hs : List HardwareOf) (i : ℕ) → HasRoom h hs → (i ≡ 2 → ⊥) → i < 1024 → word_at (last_of h g hs) i ≡ get_or (words_1 h g hs) i 0
low_read h g hs i room ne low =
    last_read h g hs i room ne (omega arith) ∙ untouched (words_1 h g hs) (member_writes h hs) 1024 2048 i (members_within h hs room (format_of h room.shape)) (inl low)

mdcfg_reset : (h : Shape) (g m : ℕ) → IsPolicyShape h → m < h.domains → get_or (first_of h g).words (512 + m) 0 ≡ 0
mdcfg_reset h g m good p =
    let few = good.valid.domains in
    get_or-set_other (at_reset h).words 4 (512 + m) (prio_word (at_reset h) g) 0 (λ e. absurd (omega arith))
    ∙ (reset_read h (512 + m) (omega arith) ∙ ap (reset_of h) (register_at-there h (Mdcfg m) good.valid (has_mdcfg h m good.mdcfg p)))

pub mdcfg_word : (h : Shape) (g : ℕ) (hs : List HardwareOf) (m : ℕ) → HasRoom h hs → m < h.domains → word_at (last_of h g hs) (512 + m) ≡ end_at 0 hs m
mdcfg_word h g hs m room p =
    let few = room.shape.valid.domains in
    let d = room.domains in
    let n = first_length h g in
    let z : 0 + m ≡ m = omega arith in
    low_read h g hs (512 + m) room (λ e. absurd (omega arith)) (omega arith)
    ∙ (ap (λ k. get_or (words_1 h g hs) (512 + k) 0) (sym z)
    ∙ mdcfg_read (first_of h g).words 0 0 hs m (omega arith) (λ l. ap (λ k. get_or (first_of h g).words (512 + k) 0) z ∙ mdcfg_reset h g m room.shape p))

pub shape_of : (h : Shape) (g : ℕ) (hs : List HardwareOf) → HasRoom h hs → (last_of h g hs).shape ≡ h
shape_of h g hs room = (tables_put h g hs room).calm.shape

pub small_bits : (w : ℕ) → w < 2 ^ 16 → bits_of 0 16 w ≡ w
small_bits w h = omega arith

-- ---- members

row_last : (h : Shape) (g : ℕ) (hs : List HardwareOf) (high : Bool) (k n : ℕ) → HasRoom h hs → k < 64 → ReadsRow (words_2 h g hs) high k n → ReadsRow (last_of h g hs).words high k n
row_last h g hs high k n room p row =
    same_row (words_2 h g hs) (last_of h g hs).words high k n
    (last_read h g hs (1024 + 8 * k) room (λ e. absurd (omega arith)) (omega arith))
    (last_read h g hs (1025 + 8 * k) room (λ e. absurd (omega arith)) (omega arith)) row

length_1 : (h : Shape) (g : ℕ) (hs : List HardwareOf) → length (words_1 h g hs) ≡ index_count h
length_1 h g hs = length_puts (first_of h g).words (mdcfg_writes 0 0 hs) ∙ first_length h g

pub enable_row_is : (h : Shape) (g : ℕ) (hs : List HardwareOf) (s : ℕ) → HasRoom h hs → h.srcmd ≡ 0 → s < h.rrids → ReadsRow (last_of h g hs).words (ltb 31 h.domains) s (enable_bits s 0 hs)
enable_row_is h g hs s room f p =
    let few = room.shape.valid.rrids in
    let n = length_1 h g hs in
    let l = length_enables hs 0 h.rrids in
    let z : 0 + s ≡ s = omega arith in
    let row = rows_read (words_1 h g hs) (ltb 31 h.domains) 0 (enable_rows hs 0 h.rrids) s (omega arith) (omega arith) in
    let here = subst (λ k. ReadsRow (puts (words_1 h g hs) (row_writes (ltb 31 h.domains) 0 (enable_rows hs 0 h.rrids))) (ltb 31 h.domains) k (get_or (enable_rows hs 0 h.rrids) s 0)) z row in
    let bits : get_or (enable_rows hs 0 h.rrids) s 0 ≡ enable_bits s 0 hs = enables_at hs 0 h.rrids s p ∙ ap (λ t. enable_bits t 0 hs) z in
    row_last h g hs (ltb 31 h.domains) s (enable_bits s 0 hs) room (omega arith)
    (subst (λ ps. ReadsRow (puts (words_1 h g hs) ps) (ltb 31 h.domains) s (enable_bits s 0 hs)) (sym (members_0 h hs f))
    (subst (ReadsRow (puts (words_1 h g hs) (row_writes (ltb 31 h.domains) 0 (enable_rows hs 0 h.rrids))) (ltb 31 h.domains) s) bits here))

pub permission_row_is : (h : Shape) (g : ℕ) (hs : List HardwareOf) (m : ℕ) → HasRoom h hs → h.srcmd ≡ 2 → m < length hs → ReadsRow (last_of h g hs).words (ltb 16 h.rrids) m (permissions h.rrids (members_at hs m))
permission_row_is h g hs m room f p =
    let few = room.shape.valid.domains in
    let d = room.domains in
    let n = length_1 h g hs in
    let l = length_permissions h.rrids hs in
    let z : 0 + m ≡ m = omega arith in
    let row = rows_read (words_1 h g hs) (ltb 16 h.rrids) 0 (permission_rows h.rrids hs) m (omega arith) (omega arith) in
    let here = subst (λ k. ReadsRow (puts (words_1 h g hs) (row_writes (ltb 16 h.rrids) 0 (permission_rows h.rrids hs))) (ltb 16 h.rrids) k (get_or (permission_rows h.rrids hs) m 0)) z row in
    row_last h g hs (ltb 16 h.rrids) m (permissions h.rrids (members_at hs m)) room (omega arith)
    (subst (λ ps. ReadsRow (puts (words_1 h g hs) ps) (ltb 16 h.rrids) m (permissions h.rrids (members_at hs m))) (sym (members_2 h hs f))
    (subst (ReadsRow (puts (words_1 h g hs) (row_writes (ltb 16 h.rrids) 0 (permission_rows h.rrids hs))) (ltb 16 h.rrids) m) (permissions_at h.rrids hs m p) here))

-- ---- entries

length_2 : (h : Shape) (g : ℕ) (hs : List HardwareOf) → length (words_2 h g hs) ≡ index_count h
length_2 h g hs = length_puts (words_1 h g hs) (member_writes h hs) ∙ length_1 h g hs

-- the write of a word below the entries leaves them
still_read : (ws : List ℕ) (i : ℕ) (es : List EntryWords) (v : ℕ) → ReadsEntries ws i es → ReadsEntries (set ws 2 v) i es
still_read ws i [] v h = tt
still_read ws i (e ∷ es) v h = (
  get_or-set_other ws 2 (2048 + 4 * i) v 0 (λ q. absurd (omega arith)) ∙ h.0,
  get_or-set_other ws 2 (2049 + 4 * i) v 0 (λ q. absurd (omega arith)) ∙ h.1,
  get_or-set_other ws 2 (2050 + 4 * i) v 0 (λ q. absurd (omega arith)) ∙ h.2,
  still_read ws (i + 1) es v h.3,
)

pub entries_are : (h : Shape) (g : ℕ) (hs : List HardwareOf) → HasRoom h hs → ReadsEntries (last_of h g hs).words 0 (all_entries hs)
entries_are h g hs room =
    let n = length_2 h g hs in
    let l = length_all hs in
    let few = room.entries in
    let read = entries_read (words_2 h g hs) 0 (all_entries hs) (omega arith) in
    still_read (tables_of h g hs).words 0 (all_entries hs) (enable_word (tables_of h g hs)) (subst (λ ws. ReadsEntries ws 0 (all_entries hs)) (sym (words_are h g hs room)) read)

-- ---- the whole

pub prio_is : (h : Shape) (g : ℕ) (hs : List HardwareOf) → HasRoom h hs → g ≤ h.entries → prio_count (last_of h g hs) ≡ g
prio_is h g hs room few =
    let n = room.shape.valid.entries in
    let l = (calm_reset h).len in
    let d = room.domains in
    let read : word_at (last_of h g hs) 4 ≡ prio_word (at_reset h) g =
    low_read h g hs 4 room (λ e. absurd (omega arith)) (omega arith)
    ∙ (untouched (first_of h g).words (mdcfg_writes 0 0 hs) 512 (512 + (0 + length hs)) 4 (mdcfg_within 0 0 hs 512 (512 + (0 + length hs)) (omega arith) (omega arith)) (inl (omega arith))
    ∙ get_or-set_same (at_reset h).words 4 (prio_word (at_reset h) g) 0 (omega arith)) in
    ap (bits_of 0 16) read ∙ prio_read h (at_reset h) g room.shape (calm_reset h) (omega arith)

pub enabled_is : (h : Shape) (g : ℕ) (hs : List HardwareOf) → HasRoom h hs → is_enabled (last_of h g hs) ≡ true
enabled_is h g hs room =
    let c = (tables_put h g hs room).calm in
    let l = c.len in
    ap (λ w. has_bit w 0) (get_or-set_same (tables_of h g hs).words 2 (enable_word (tables_of h g hs)) 0 (omega arith)) ∙ enabled_after h (tables_of h g hs) room.shape c

fit_domains : (p : PolicyOf) → length (hardware p.domains) ≡ need_domains p
unfolding need_domains
fit_domains p = length-append (hardware_of Guards p.domains) (hardware_of Grants p.domains) ∙ omega (arith, kind_domains Guards p.domains, kind_domains Grants p.domains)

pub fit_entries : (p : PolicyOf) → entry_count (hardware p.domains) ≡ need_entries p
unfolding need_entries
fit_entries p = count_append (hardware_of Guards p.domains) (hardware_of Grants p.domains) ∙ omega (arith, kind_entries Guards p.domains, kind_entries Grants p.domains)

pub room_of : (p : PolicyOf) → IsPolicy p → need_domains p ≤ p.shape.domains → need_entries p ≤ p.shape.entries → HasRoom p.shape (hardware p.domains)
room_of p good d e = record {
  shape = good.shape;
  domains = let x = fit_domains p in omega arith;
  entries = let x = fit_entries p in omega arith;
  good = both_good p.domains (domains_have_rules p good);
}

pub image_registers : (p : PolicyOf) → registers_after (image_of p) ≡ last_of p.shape (entry_count (hardware_of Guards p.domains)) (hardware p.domains)
unfolding registers_after image_of
image_registers p = after_is p.shape (entry_count (hardware_of Guards p.domains)) (hardware p.domains)
