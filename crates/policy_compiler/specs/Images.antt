-- The register writes that make a unit decide as a policy does.
use Rattle.std.specs.Prelude.{ℕ, zero, suc, ◌+◌, ◌-◌, ◌*◌, ◌^◌, ◌/◌, ◌%◌, ◌==◌, nat_lt, Bool, if◌then◌else◌, List, [], ◌∷◌, ◌++◌, length}
use Rattle.event_words.specs.declared.shape.Shape.{Shape}
use Rattle.event_words.specs.declared.register.Register.{Register}
use Rattle.event_words.specs.declared.register.Register.TheVariants.{Hwcfg0, Hwcfg2, Mdcfg, SrcmdEn, SrcmdEnh, SrcmdPerm, SrcmdPermh, EntryAddr, EntryAddrh, EntryCfg}
use Rattle.event_words.specs.Registers.{index_of, has_bit}
use Rattle.register_fields.specs.Rights.{rights_bits}
use Rattle.policy_compiler.specs.declared.policy.Rule.{Rule}
use Rattle.policy_compiler.specs.declared.read.rules.RuleKind.{RuleKind}
use Rattle.policy_compiler.specs.declared.read.rules.RuleKind.TheVariants.{Guards, Grants}
use Rattle.policy_compiler.specs.declared.image.RegPair.{RegPair}
use Rattle.policy_compiler.specs.declared.hardware.EntryWords.{EntryWords}
use Rattle.policy_compiler.specs.Policies.{DomainOf, PolicyOf, is_single}

-- What contracts see of an image, and of a hardware domain: its members and its entries.
pub record ImageOf : Type 0 where
  pub shape : Shape
  pub writes : List RegPair

pub record HardwareOf : Type 0 where
  pub members : ℕ
  pub entries : List EntryWords

-- ---- entries

abbrev pub entry_with : ℕ → ℕ → EntryWords
entry_with word cfg = record { word = word; cfg = cfg }

-- mode NA4 for 4 bytes, else mode NAPOT
abbrev pub single_entry : Rule → EntryWords
single_entry u =
    if u.size == 4 then entry_with (u.from / 4) (rights_bits u.rights + 16)
    else entry_with (u.from / 4 + u.size / 8 - 1) (rights_bits u.rights + 24)

-- the bottom in mode OFF, and the top in mode TOR
abbrev pub two_entries : Rule → List EntryWords
two_entries u = entry_with (u.from / 4) 0 ∷ entry_with ((u.from + u.size) / 4) (rights_bits u.rights + 8) ∷ []

unfoldable pub rule_entries : Rule → List EntryWords
rule_entries u = if is_single u.from u.size then single_entry u ∷ [] else two_entries u

abbrev pub entries_of : List Rule → List EntryWords
entries_of [] = []
entries_of (u ∷ us) = rule_entries u ++ entries_of us

-- ---- hardware domains

abbrev pub rules_of : RuleKind → DomainOf → List Rule
rules_of Guards d = d.guards
rules_of Grants d = d.grants

abbrev pub is_empty : List Rule → Bool
is_empty us = length us == 0

-- one for each policy domain that has rules of the kind
abbrev pub hardware_of : RuleKind → List DomainOf → List HardwareOf
hardware_of kind [] = []
hardware_of kind (d ∷ ds) =
    if is_empty (rules_of kind d) then hardware_of kind ds
    else record { members = d.rrids; entries = entries_of (rules_of kind d) } ∷ hardware_of kind ds

-- those of guards come first
abbrev pub hardware : List DomainOf → List HardwareOf
hardware ds = hardware_of Guards ds ++ hardware_of Grants ds

abbrev pub entry_count : List HardwareOf → ℕ
entry_count [] = 0
entry_count (h ∷ hs) = length h.entries + entry_count hs

-- ---- writes

abbrev pub pair : ℕ → ℕ → RegPair
pair index value = record { index = index; value = value }

-- MDCFG(m) and those after it: the number of entries up to the end of each
abbrev pub mdcfg_writes : ℕ → ℕ → List HardwareOf → List RegPair
mdcfg_writes m before [] = []
mdcfg_writes m before (h ∷ hs) =
    pair (index_of (Mdcfg m)) (before + length h.entries) ∷ mdcfg_writes (m + 1) (before + length h.entries) hs

-- A low register, and its high one where the unit has that: the bits of both as one number.
abbrev pub pair_writes : Register → Register → Bool → ℕ → List RegPair
pair_writes low high has_high bits =
    pair (index_of low) (bits % 2 ^ 32)
    ∷ (if has_high then pair (index_of high) (bits / 2 ^ 32) ∷ [] else [])

-- bit m + 1 for domain m and those after it, where the requester is a member
abbrev pub enable_bits : ℕ → ℕ → List HardwareOf → ℕ
enable_bits s m [] = 0
enable_bits s m (h ∷ hs) = (if has_bit h.members s then 2 ^ (m + 1) else 0) + enable_bits s (m + 1) hs

-- SRCMD_EN(s), followed at once by SRCMD_ENH(s) where the unit has more than 31 domains
abbrev pub enables_of : ℕ → List HardwareOf → ℕ → List RegPair
enables_of domains hs s =
    pair_writes (SrcmdEn s) (SrcmdEnh s) (nat_lt 31 domains) (enable_bits s 0 hs)

-- those of the n requesters from s on
abbrev pub enable_writes : ℕ → List HardwareOf → ℕ → ℕ → List RegPair
enable_writes domains hs s zero = []
enable_writes domains hs s (suc n) = enables_of domains hs s ++ enable_writes domains hs (s + 1) n

-- both bits of a requester, where it is a member
abbrev pub permission : ℕ → ℕ → ℕ
permission members s = if has_bit members s then 3 * 2 ^ (2 * s) else 0

-- those of the n requesters from s on
abbrev pub permissions_from : ℕ → ℕ → ℕ → ℕ
permissions_from members s zero = 0
permissions_from members s (suc n) = permission members s + permissions_from members (s + 1) n

unfoldable pub permissions : ℕ → ℕ → ℕ
permissions rrids members = permissions_from members 0 rrids

-- SRCMD_PERM(m), followed at once by SRCMD_PERMH(m) where the unit has more than 16 requesters
abbrev pub permissions_of : ℕ → ℕ → ℕ → List RegPair
permissions_of rrids m members =
    pair_writes (SrcmdPerm m) (SrcmdPermh m) (nat_lt 16 rrids) (permissions rrids members)

abbrev pub permission_writes : ℕ → ℕ → List HardwareOf → List RegPair
permission_writes rrids m [] = []
permission_writes rrids m (h ∷ hs) =
    permissions_of rrids m h.members ++ permission_writes rrids (m + 1) hs

-- The SRCMD registers of each requester in format 0, those of each hardware domain in format 2.
unfoldable pub member_writes : Shape → List HardwareOf → List RegPair
member_writes h hs =
    if h.srcmd == 0 then enable_writes h.domains hs 0 h.rrids
    else permission_writes h.rrids 0 hs

-- the three registers of entry i and of those after it
abbrev pub entry_writes : ℕ → List EntryWords → List RegPair
entry_writes i [] = []
entry_writes i (e ∷ es) =
    pair (index_of (EntryAddr i)) (e.word % 2 ^ 32) ∷ pair (index_of (EntryAddrh i)) (e.word / 2 ^ 32)
    ∷ pair (index_of (EntryCfg i)) e.cfg ∷ entry_writes (i + 1) es

abbrev pub hardware_writes : ℕ → List HardwareOf → List RegPair
hardware_writes i [] = []
hardware_writes i (h ∷ hs) = entry_writes i h.entries ++ hardware_writes (i + length h.entries) hs

-- The writes of an image: the number of priority entries, the tables, and at last the enable bit.
unfoldable pub writes_of : Shape → ℕ → List HardwareOf → List RegPair
writes_of h guards hs =
    pair (index_of Hwcfg2) guards
    ∷ (mdcfg_writes 0 0 hs ++ (member_writes h hs ++ (hardware_writes 0 hs ++ pair (index_of Hwcfg0) 1 ∷ [])))

unfoldable pub image_of : PolicyOf → ImageOf
image_of p = record { shape = p.shape; writes = writes_of p.shape (entry_count (hardware_of Guards p.domains)) (hardware p.domains) }
