-- Each write of an image's tables is a plain one.
use Rattle.std.proofs.Common.{◌≡◌, ℕ, zero, suc, ◌+◌, ◌*◌, ◌/◌, ◌%◌, ◌^◌, ◌<◌, ◌≤◌, Bool, true, false, ◌==◌, ◌||◌, ltb, cond, List, [], ◌∷◌, ◌++◌, length, length-append, append_assoc, arith, refl, sym, ap, ◌∙◌}
use Rattle.std.specs.List.{AllByRecursion}
use Rattle.std.proofs.Math.Pow.{pow_mono}
use Rattle.std.proofs.lemmas.Bool.Decides.{nat_tests}
use Rattle.event_words.specs.declared.shape.Shape.{Shape}
use Rattle.policy_compiler.specs.declared.policy.Rule.{Rule}
use Rattle.policy_compiler.specs.declared.image.RegPair.{RegPair}
use Rattle.policy_compiler.specs.declared.read.rules.RuleKind.{RuleKind}
use Rattle.policy_compiler.specs.declared.read.rules.RuleKind.TheVariants.{Guards, Grants}
use Rattle.policy_compiler.specs.declared.hardware.EntryWords.{EntryWords}
use Rattle.policy_compiler.specs.Policies.{DomainOf, IsRule, AreRules, is_single, IsPolicyShape}
use Rattle.policy_compiler.specs.Images.{HardwareOf, single_entry, two_entries, rule_entries, entries_of, rules_of, is_empty, hardware_of, entry_count, mdcfg_writes, enable_bits, permissions, entry_writes}
use Rattle.policy_compiler.specs.Fitting.{HasRules}
use Rattle.policy_compiler.proofs.Plain.{ArePlain, plain_mdcfg, plain_enable, plain_high_enable, plain_permission, plain_high_permission, plain_addr, plain_addrh, plain_cfg}
use Rattle.policy_compiler.proofs.PairWords.{domains_low, domains_high, rrids_low, rrids_high}
use Rattle.policy_compiler.proofs.Puts.{all_entries}
use Rattle.policy_compiler.proofs.SrcmdRows.{row_of, row_writes, enable_rows, permission_rows}
use Rattle.policy_compiler.proofs.Masks.{enables_mask, mask_small, quads_small, permissions_is}

-- ---- words of entries

pub record IsEntry (e : EntryWords) : Type 0 where
  pub word : e.word < 2 ^ 50
  pub cfg : e.cfg < 32

abbrev pub AreEntries : List EntryWords → Type 0
AreEntries = AllByRecursion IsEntry

entries_append : (es fs : List EntryWords) → AreEntries es → AreEntries fs → AreEntries (es ++ fs)
entries_append [] fs a b = b
entries_append (e ∷ es) fs a b = (a.0, entries_append es fs a.1 b)

small_word : (n : ℕ) → n < 2 ^ 52 → n / 4 < 2 ^ 50
small_word n h = omega arith

single_good : (u : Rule) (b : Bool) → (u.size == 4) ≡ b → IsRule u → IsEntry (single_entry u)
single_good u true e h = let f = h.end in let s = h.some in let c = h.rights in rw e (record { word = omega arith; cfg = omega arith })
single_good u false e h = let f = h.end in let s = h.some in let c = h.rights in rw e (record { word = omega arith; cfg = omega arith })

or_else : (a b : Bool) → (a || b) ≡ true → a ≡ false → b ≡ true
or_else true b e f = absurd (let x : true ≡ false = f in cc)
or_else false b e f = e

pair_good : (u : Rule) → is_single u.from u.size ≡ false → IsRule u → AreEntries (two_entries u)
pair_good u s h =
    let top = or_else (is_single u.from u.size) (ltb (u.from + u.size) (2 ^ 52)) h.top s in
    let below : u.from + u.size < 2 ^ 52 = grind (arith, nat_tests) in
    let c = h.rights in
    (record { word = omega arith; cfg = omega arith }, (record { word = omega arith; cfg = omega arith }, tt))

rule_good : (u : Rule) (b : Bool) → is_single u.from u.size ≡ b → IsRule u → AreEntries (rule_entries u)
unfolding rule_entries
rule_good u true s h = rw s (single_good u (u.size == 4) refl h, tt)
rule_good u false s h = rw s (pair_good u s h)

rules_good : (us : List Rule) → AreRules us → AreEntries (entries_of us)
rules_good [] h = tt
rules_good (u ∷ us) h = entries_append (rule_entries u) (entries_of us) (rule_good u (is_single u.from u.size) refl h.0) (rules_good us h.1)

kind_rules : (kind : RuleKind) (d : DomainOf) → HasRules d → AreRules (rules_of kind d)
kind_rules Guards d h = h.guards
kind_rules Grants d h = h.grants

domain_good : (b : Bool) (members : ℕ) (us : List Rule) (rest : List HardwareOf) → AreRules us → AreEntries (all_entries rest) → AreEntries (all_entries (cond b rest (record { members = members; entries = entries_of us } ∷ rest)))
domain_good true members us rest h k = k
domain_good false members us rest h k = entries_append (entries_of us) (all_entries rest) (rules_good us h) k

pub hardware_good : (kind : RuleKind) (ds : List DomainOf) → AllByRecursion HasRules ds → AreEntries (all_entries (hardware_of kind ds))
hardware_good kind [] h = tt
hardware_good kind (d ∷ ds) h = domain_good (is_empty (rules_of kind d)) d.rrids (rules_of kind d) (hardware_of kind ds) (kind_rules kind d h.0) (hardware_good kind ds h.1)

all_entries_append : (hs ks : List HardwareOf) → all_entries (hs ++ ks) ≡ all_entries hs ++ all_entries ks
all_entries_append [] ks = refl
all_entries_append (h ∷ hs) ks = ap (λ es. h.entries ++ es) (all_entries_append hs ks) ∙ sym (append_assoc h.entries (all_entries hs) (all_entries ks))

all_append : (hs ks : List HardwareOf) → AreEntries (all_entries hs) → AreEntries (all_entries ks) → AreEntries (all_entries (hs ++ ks))
all_append hs ks a b = rw (all_entries_append hs ks) (entries_append (all_entries hs) (all_entries ks) a b)

pub both_good : (ds : List DomainOf) → AllByRecursion HasRules ds → AreEntries (all_entries (hardware_of Guards ds ++ hardware_of Grants ds))
both_good ds h = all_append (hardware_of Guards ds) (hardware_of Grants ds) (hardware_good Guards ds h) (hardware_good Grants ds h)

pub length_all : (hs : List HardwareOf) → length (all_entries hs) ≡ entry_count hs
length_all [] = refl
length_all (h ∷ hs) = length-append h.entries (all_entries hs) ∙ ap (λ n. length h.entries + n) (length_all hs)

-- ---- plain writes

pub plain_mdcfgs : (h : Shape) (m before : ℕ) (hs : List HardwareOf) → IsPolicyShape h → m + length hs ≤ h.domains → before + entry_count hs < 2 ^ 16 → ArePlain h (mdcfg_writes m before hs)
plain_mdcfgs h m before [] good few small = tt
plain_mdcfgs h m before (x ∷ hs) good few small =
    (plain_mdcfg h m (before + length x.entries) good (omega arith) (omega arith), plain_mdcfgs h (m + 1) (before + length x.entries) hs good (omega arith) (omega arith))

enable_value : (h : Shape) (s : ℕ) (hs : List HardwareOf) → length hs ≤ h.domains → (enable_bits s 0 hs % 2 ≡ 0) × (enable_bits s 0 hs / 2 < 2 ^ h.domains)
enable_value h s hs few =
    let e = enables_mask s 0 hs in
    let m = mask_small s hs in
    let p : 2 ^ length hs ≤ 2 ^ h.domains = pow_mono {j = h.domains} few in
    (omega arith, omega arith)

enables_plain : (h : Shape) (high : Bool) (s n : ℕ) (rest : List RegPair) → IsPolicyShape h → h.srcmd ≡ 0 → s < h.rrids → (n % 2 ≡ 0) × (n / 2 < 2 ^ h.domains) → ArePlain h rest → ArePlain h (row_of high s n ++ rest)
enables_plain h true s n rest good f p v more = (
  plain_enable h s (n % 2 ^ 32) good f p (let even = v.0 in omega arith) (domains_low h.domains n v.1),
  (plain_high_enable h s (n / 2 ^ 32) good f p (domains_high h.domains n v.1), more),
)
enables_plain h false s n rest good f p v more = (plain_enable h s (n % 2 ^ 32) good f p (let even = v.0 in omega arith) (domains_low h.domains n v.1), more)

pub plain_enables : (h : Shape) (high : Bool) (hs : List HardwareOf) (s n : ℕ) → IsPolicyShape h → h.srcmd ≡ 0 → length hs ≤ h.domains → s + n ≤ h.rrids → ArePlain h (row_writes high s (enable_rows hs s n))
plain_enables h high hs s zero good f few p = tt
plain_enables h high hs s (suc n) good f few p =
    enables_plain h high s (enable_bits s 0 hs) (row_writes high (s + 1) (enable_rows hs (s + 1) n)) good f (omega arith) (enable_value h s hs few)
    (plain_enables h high hs (s + 1) n good f few (omega arith))

permissions_plain : (h : Shape) (high : Bool) (m n : ℕ) (rest : List RegPair) → IsPolicyShape h → h.srcmd ≡ 2 → m < h.domains → n < 2 ^ (2 * h.rrids) → ArePlain h rest → ArePlain h (row_of high m n ++ rest)
permissions_plain h true m n rest good f p small more = (
  plain_permission h m (n % 2 ^ 32) good f p (rrids_low h.rrids n small),
  (plain_high_permission h m (n / 2 ^ 32) good f p (rrids_high h.rrids n small), more),
)
permissions_plain h false m n rest good f p small more = (plain_permission h m (n % 2 ^ 32) good f p (rrids_low h.rrids n small), more)

pub permissions_small : (n members : ℕ) → permissions n members < 2 ^ (2 * n)
permissions_small n members = rw (permissions_is members n) (quads_small members 0 n)

pub plain_permissions : (h : Shape) (high : Bool) (m : ℕ) (hs : List HardwareOf) → IsPolicyShape h → h.srcmd ≡ 2 → m + length hs ≤ h.domains → ArePlain h (row_writes high m (permission_rows h.rrids hs))
plain_permissions h high m [] good f few = tt
plain_permissions h high m (x ∷ hs) good f few =
    permissions_plain h high m (permissions h.rrids x.members) (row_writes high (m + 1) (permission_rows h.rrids hs)) good f (omega arith) (permissions_small h.rrids x.members)
    (plain_permissions h high (m + 1) hs good f (omega arith))

pub plain_entries : (h : Shape) (i : ℕ) (es : List EntryWords) → i + length es ≤ h.entries → AreEntries es → ArePlain h (entry_writes i es)
plain_entries h i [] few good = tt
plain_entries h i (e ∷ es) few good =
    let w = good.0.word in
    (plain_addr h i (e.word % 2 ^ 32) (omega arith) (omega arith), (plain_addrh h i (e.word / 2 ^ 32) (omega arith) (omega arith), (plain_cfg h i e.cfg (omega arith) good.0.cfg, plain_entries h (i + 1) es (omega arith) good.1)))
