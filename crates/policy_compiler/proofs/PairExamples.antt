-- Worked examples of images for units whose tables have high registers.
use Rattle.std.proofs.Common.{◌≡◌, ℕ, ◌/◌, false, [], ◌∷◌, codes, None, refl}
use lib.Count
use Rattle.event_words.specs.declared.access.Access.{Access}
use Rattle.event_words.specs.declared.access.Kind.TheVariants.{Write, Fetch}
use Rattle.event_words.specs.Decisions.{decision}
use Rattle.register_fields.specs.declared.rights.Rights.{Rights}
use Rattle.policy_compiler.specs.declared.policy.Rule.{Rule}
use Rattle.policy_compiler.specs.declared.image.RegPair.{RegPair}
use Rattle.policy_compiler.specs.Policies.{DomainOf, PolicyOf, is_single}
use Rattle.policy_compiler.specs.Images.{rule_entries, permissions, member_writes, writes_of, image_of, pair}
use Rattle.policy_compiler.specs.Laws.{registers_after, kind_of}

-- 4096 bytes that may be read and written
abbrev page : Rule
page = record { from = 0x80000000; size = 0x1000; rights = (let r : Rights = record { 0 = 3 } in r) }

abbrev domain_of : ℕ → DomainOf
domain_of members = record { name = codes "a"; rrids = members; guards = []; grants = page ∷ [] }

abbrev put : ℕ → ℕ → RegPair
put off value = pair (off / 4) value

-- ---- a unit of 40 domains: SRCMD_ENH(s) comes right after SRCMD_EN(s)

abbrev many_domains : PolicyOf
many_domains = record {
  shape = record { rrids = 2; domains = 40; entries = 1; mdcfg = 0; k = 0; srcmd = 0; sps = false; queue = 1; transl = None };
  domains = domain_of 2 ∷ [];
}

many_domains_writes : (image_of many_domains).writes
    ≡ put 0x10 0x0 ∷ put 0x800 0x1 ∷ put 0x1000 0x0 ∷ put 0x1004 0x0 ∷ put 0x1020 0x2 ∷ put 0x1024 0x0
    ∷ put 0x2000 0x200001ff ∷ put 0x2004 0x0 ∷ put 0x2008 0x1b ∷ put 0x8 0x1 ∷ []
unfolding lib.Count.count_trailing_zeros lib.Count.ones is_single rule_entries permissions member_writes writes_of image_of
many_domains_writes = refl

-- ---- a unit of 20 requesters in format 2: SRCMD_PERMH(m) comes right after SRCMD_PERM(m)

-- requesters 1 and 18
abbrev many_requesters : PolicyOf
many_requesters = record {
  shape = record { rrids = 20; domains = 1; entries = 1; mdcfg = 0; k = 0; srcmd = 2; sps = false; queue = 1; transl = None };
  domains = domain_of 0x40002 ∷ [];
}

many_requesters_writes : (image_of many_requesters).writes
    ≡ put 0x10 0x0 ∷ put 0x800 0x1 ∷ put 0x1000 0xc ∷ put 0x1004 0x30 ∷ put 0x2000 0x200001ff ∷ put 0x2004 0x0 ∷ put 0x2008 0x1b ∷ put 0x8 0x1 ∷ []
unfolding lib.Count.count_trailing_zeros lib.Count.ones is_single rule_entries permissions member_writes writes_of image_of
many_requesters_writes = refl

abbrev write_by : ℕ → Access
write_by rrid = record { rrid = rrid; kind = Write; addr = 0x80000000; len = 4 }

abbrev fetch_by : ℕ → Access
fetch_by rrid = record { rrid = rrid; kind = Fetch; addr = 0x80000000; len = 4 }

-- what the registers decide after these writes: the write of 18 is allowed, its fetch isn't, 17 finds nothing
allowed_high : kind_of (decision (registers_after (image_of many_requesters)) (write_by 18)) ≡ 0
unfolding lib.Count.count_trailing_zeros lib.Count.ones is_single rule_entries permissions member_writes writes_of image_of registers_after
allowed_high = refl

no_fetch : kind_of (decision (registers_after (image_of many_requesters)) (fetch_by 18)) ≡ 3
unfolding lib.Count.count_trailing_zeros lib.Count.ones is_single rule_entries permissions member_writes writes_of image_of registers_after
no_fetch = refl

no_member : kind_of (decision (registers_after (image_of many_requesters)) (write_by 17)) ≡ 5
unfolding lib.Count.count_trailing_zeros lib.Count.ones is_single rule_entries permissions member_writes writes_of image_of registers_after
no_member = refl
