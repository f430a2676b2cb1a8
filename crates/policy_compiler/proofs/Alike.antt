-- Registers that read as those after a policy's image decide as the policy does, and so do these themselves.
use Rattle.std.proofs.Common.{◌≡◌, ℕ, ◌+◌, ◌*◌, ◌<◌, ◌≤◌, ◌⊎◌, inl, inr, Bool, true, false, ltb, List, [], ◌∷◌, length, arith, refl, sym, ap, ◌∙◌, subst}
use Rattle.event_words.specs.declared.shape.Shape.{Shape}
use Rattle.event_words.specs.declared.access.Access.{Access}
use Rattle.event_words.specs.Valid.{IsValidAccess}
use Rattle.event_words.specs.Registers.{Registers, word_at, bits_of}
use Rattle.event_words.specs.Guards.{is_enabled}
use Rattle.event_words.specs.Domains.{bound_of}
use Rattle.event_words.specs.Decisions.{prio_count, decision}
use Rattle.policy_compiler.specs.declared.hardware.EntryWords.{EntryWords}
use Rattle.policy_compiler.specs.declared.read.rules.RuleKind.TheVariants.{Guards, Grants}
use Rattle.policy_compiler.specs.Policies.{PolicyOf, IsPolicy}
use Rattle.policy_compiler.specs.Images.{HardwareOf, hardware, hardware_of, entry_count, enable_bits, permissions, image_of}
use Rattle.policy_compiler.specs.Needs.{need_domains, need_entries}
use Rattle.policy_compiler.specs.Laws.{kind_of, DecidesAs}
use Rattle.policy_compiler.specs.Decides.{policy_decision}
use Rattle.policy_compiler.proofs.Fits.{count_append}
use Rattle.policy_compiler.proofs.Puts.{end_at, members_at, all_entries, ReadsEntries}
use Rattle.policy_compiler.proofs.SrcmdRows.{ReadsRow, same_row}
use Rattle.policy_compiler.proofs.Owners.{end_small, IsMemberTable, table_of_enables, table_of_permissions, holds_all, owner_past}
use Rattle.policy_compiler.proofs.Decided.{IsCompiled, decided}
use Rattle.policy_compiler.proofs.Compiled.{HasRoom, last_of, shape_of, enabled_is, prio_is, room_of, image_registers, format_of, small_bits, mdcfg_word, enable_row_is, permission_row_is, entries_are}

-- the same shape, enabled, as many priority entries, and the same words of tables
pub record IsAlike (r : Registers) (h : Shape) (g : ℕ) (hs : List HardwareOf) : Type 0 where
  pub shape : r.shape ≡ h
  pub enabled : is_enabled r ≡ true
  pub prio : prio_count r ≡ g
  pub tables : (i : ℕ) → 512 ≤ i → word_at r i ≡ word_at (last_of h g hs) i

bound_word : (r : Registers) (m : ℕ) → r.shape.mdcfg ≡ 0 → bound_of r m ≡ bits_of 0 16 (word_at r (512 + m))
bound_word r m f = rw f refl

bound_is : (r : Registers) (h : Shape) (g : ℕ) (hs : List HardwareOf) (m : ℕ) → HasRoom h hs → IsAlike r h g hs → m < h.domains → bound_of r m ≡ end_at 0 hs m
bound_is r h g hs m room a p =
    let f : r.shape.mdcfg ≡ 0 = ap (λ (x : Shape). x.mdcfg) a.shape ∙ room.shape.mdcfg in
    let few = room.shape.valid.entries in
    let n = room.entries in
    let w = a.tables (512 + m) (omega arith) ∙ mdcfg_word h g hs m room p in
    let s = end_small 0 hs m in
    bound_word r m f ∙ (ap (bits_of 0 16) w ∙ small_bits (end_at 0 hs m) (omega arith))

row_alike : (r : Registers) (h : Shape) (g : ℕ) (hs : List HardwareOf) (high : Bool) (k n : ℕ) → IsAlike r h g hs → ReadsRow (last_of h g hs).words high k n → ReadsRow r.words high k n
row_alike r h g hs high k n a row = same_row (last_of h g hs).words r.words high k n (a.tables (1024 + 8 * k) (omega arith)) (a.tables (1025 + 8 * k) (omega arith)) row

member_table : (r : Registers) (h : Shape) (g : ℕ) (hs : List HardwareOf) (k : ℕ) → HasRoom h hs → IsAlike r h g hs → (h.srcmd ≡ 0) ⊎ (h.srcmd ≡ 2) → k < length hs → IsMemberTable r k (members_at hs k)
member_table r h g hs k room a (inl f) p =
    let c : r.shape.srcmd ≡ 0 = ap (λ (x : Shape). x.srcmd) a.shape ∙ f in
    let n : r.shape.sps ≡ false = ap (λ (x : Shape). x.sps) a.shape ∙ room.shape.sps in
    let d : r.shape.domains ≡ h.domains = ap (λ (x : Shape). x.domains) a.shape in
    let t : r.shape.rrids ≡ h.rrids = ap (λ (x : Shape). x.rrids) a.shape in
    let few = room.domains in
    let rows = λ (s : ℕ) (l : s < r.shape.rrids). subst (λ n. ReadsRow r.words (ltb 31 n) s (enable_bits s 0 hs)) (sym d) (row_alike r h g hs (ltb 31 h.domains) s (enable_bits s 0 hs) a (enable_row_is h g hs s room f (omega arith))) in
    table_of_enables r hs k c n p (omega arith) rows
member_table r h g hs k room a (inr f) p =
    let c : r.shape.srcmd ≡ 2 = ap (λ (x : Shape). x.srcmd) a.shape ∙ f in
    let d : r.shape.domains ≡ h.domains = ap (λ (x : Shape). x.domains) a.shape in
    let t : r.shape.rrids ≡ h.rrids = ap (λ (x : Shape). x.rrids) a.shape in
    let few = room.domains in
    table_of_permissions r (members_at hs k) k c (omega arith)
    (subst (λ n. ReadsRow r.words (ltb 16 n) k (permissions n (members_at hs k))) (sym t)
    (row_alike r h g hs (ltb 16 h.rrids) k (permissions h.rrids (members_at hs k)) a (permission_row_is h g hs k room f p)))

entries_alike : (r s : Registers) (i : ℕ) (es : List EntryWords) → ((j : ℕ) → 512 ≤ j → word_at r j ≡ word_at s j) → ReadsEntries s.words i es → ReadsEntries r.words i es
entries_alike r s i [] same h = tt
entries_alike r s i (e ∷ es) same h = (
  same (2048 + 4 * i) (omega arith) ∙ h.0,
  same (2049 + 4 * i) (omega arith) ∙ h.1,
  same (2050 + 4 * i) (omega arith) ∙ h.2,
  entries_alike r s (i + 1) es same h.3,
)

abbrev pub guards_of_policy : PolicyOf → ℕ
guards_of_policy p = entry_count (hardware_of Guards p.domains)

compiled : (r : Registers) (p : PolicyOf) → HasRoom p.shape (hardware p.domains) → IsAlike r p.shape (guards_of_policy p) (hardware p.domains) → IsCompiled r p
compiled r p room a =
    let d : r.shape.domains ≡ p.shape.domains = ap (λ (x : Shape). x.domains) a.shape in
    let n : r.shape.entries ≡ p.shape.entries = ap (λ (x : Shape). x.entries) a.shape in
    let few = room.domains in
    let fits = room.entries in
    let total = count_append (hardware_of Guards p.domains) (hardware_of Grants p.domains) in
    let bounds : (m : ℕ) → m < r.shape.domains → bound_of r m ≡ end_at 0 (hardware p.domains) m = λ m l. bound_is r p.shape (guards_of_policy p) (hardware p.domains) m room a (omega arith) in
    record {
      shape = a.shape;
      enabled = a.enabled;
      prio = a.prio;
      holds = holds_all r (hardware p.domains) (omega arith) bounds
          (λ k l. member_table r p.shape (guards_of_policy p) (hardware p.domains) k room a (format_of p.shape room.shape) l)
          (entries_alike r (last_of p.shape (guards_of_policy p) (hardware p.domains)) 0 (all_entries (hardware p.domains)) a.tables (entries_are p.shape (guards_of_policy p) (hardware p.domains) room));
      unowned = owner_past r (hardware p.domains) bounds;
      fits = omega arith;
    }

pub decides_alike : (r : Registers) (p : PolicyOf) → IsPolicy p → HasRoom p.shape (hardware p.domains) → IsAlike r p.shape (guards_of_policy p) (hardware p.domains) → (a : Access) → IsValidAccess a
    → kind_of (decision r a) ≡ policy_decision p a
decides_alike r p good room alike a valid = decided r p a (compiled r p room alike) good valid

-- ---- the registers after an image

alike_last : (h : Shape) (g : ℕ) (hs : List HardwareOf) → HasRoom h hs → g ≤ h.entries → IsAlike (last_of h g hs) h g hs
alike_last h g hs room few = record {
  shape = shape_of h g hs room;
  enabled = enabled_is h g hs room;
  prio = prio_is h g hs room few;
  tables = λ i l. refl;
}

-- A unit decides after the image of a policy as the policy does.
pub decides_as : (p : PolicyOf) → IsPolicy p → need_domains p ≤ p.shape.domains → need_entries p ≤ p.shape.entries → DecidesAs p (image_of p)
decides_as p good d e a valid =
    let room = room_of p good d e in
    let fits = room.entries in
    let total = count_append (hardware_of Guards p.domains) (hardware_of Grants p.domains) in
    ap (λ r. kind_of (decision r a)) (image_registers p)
    ∙ decides_alike (last_of p.shape (guards_of_policy p) (hardware p.domains)) p good room (alike_last p.shape (guards_of_policy p) (hardware p.domains) room (omega arith)) a valid
