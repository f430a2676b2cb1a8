-- A plan and refusals that are computed.
use Rattle.std.proofs.Common.{◌≡◌, ℕ, true, false, List, [], ◌∷◌, codes, None, Some, refl, ◌++◌}
use lib.Count
use Rattle.event_words.specs.Registers.{index_of}
use Rattle.event_words.specs.declared.register.Register.TheVariants.{Hwcfg2, Mdstall, Mdcfg, SrcmdEn, SrcmdEnh, EntryAddr, EntryAddrh, EntryCfg}
use Rattle.event_words.specs.declared.register.Register.{Register}
use Rattle.event_words.specs.declared.shape.Shape.{Shape}
use Rattle.event_words.specs.declared.section.Command.{Command}
use Rattle.event_words.specs.declared.section.Command.TheVariants.{Write, Until}
use Rattle.register_fields.specs.declared.rights.Rights.{Rights}
use Rattle.policy_compiler.specs.declared.policy.Rule.{Rule}
use Rattle.policy_compiler.specs.declared.image.CompileError.TheVariants.{TooManyDomains, TooManyEntries}
use Rattle.policy_compiler.specs.Policies.{DomainOf, PolicyOf, is_single}
use Rattle.policy_compiler.specs.Images.{rule_entries, permissions, member_writes, writes_of, image_of}
use Rattle.policy_compiler.specs.Needs.{rule_need, need_domains, need_entries, need_refusal}
use Rattle.update_planner.specs.declared.answer.PlanError.TheVariants.{ShapesDiffer, Compile}
use Rattle.update_planner.specs.Plans.{rewrites, plan_commands}
use Rattle.update_planner.specs.Refusals.{plan_refusal}

-- one requester
abbrev shape_of : ℕ → ℕ → Shape
shape_of domains entries = record { rrids = 1; domains = domains; entries = entries; mdcfg = 0; k = 0; srcmd = 0; sps = false; queue = 1; transl = None }

abbrev rights : ℕ → Rights
rights n = record { 0 = n }

-- 4096 bytes, which one entry can hold
abbrev page : ℕ → ℕ → Rule
page from n = record { from = from; size = 0x1000; rights = rights n }

abbrev domain_of : List Rule → List Rule → DomainOf
domain_of guards grants = record { name = codes "a"; rrids = 1; guards = guards; grants = grants }

abbrev policy_of : ℕ → ℕ → List Rule → List Rule → PolicyOf
policy_of domains entries guards grants = record { shape = shape_of domains entries; domains = domain_of guards grants ∷ [] }

abbrev planned : PolicyOf → PolicyOf → List Command
planned old new = plan_commands (image_of old) (image_of new) 8

abbrev write : Register → ℕ → Command
write q value = Write 0 (index_of q) value

-- all requesters stall, the tables are rewritten once no stalled access is in flight, and the stall ends
abbrev drained_writes : List Command → List Command
drained_writes writes = write Mdstall 1 ∷ Until 0 (index_of Mdstall) 1 0 8 ∷ (writes ++ write Mdstall 0 ∷ [])

-- the writes of one entry, which may be read and written
abbrev entry_writes : List Command
entry_writes = write (EntryAddr 0) 0x200001ff ∷ write (EntryAddrh 0) 0 ∷ write (EntryCfg 0) 0x1b ∷ []

-- a page may be written, too
more_rights :
    planned (policy_of 1 1 [] (page 0x80000000 1 ∷ [])) (policy_of 1 1 [] (page 0x80000000 3 ∷ []))
    ≡ drained_writes (write Hwcfg2 0 ∷ write (Mdcfg 0) 1 ∷ write (SrcmdEn 0) 2 ∷ entry_writes)
unfolding lib.Count.count_trailing_zeros lib.Count.ones is_single rule_entries permissions member_writes writes_of image_of rewrites plan_commands
more_rights = refl

-- a page less: the registers of its entry get 0
fewer_pages :
    planned (policy_of 1 2 [] (page 0x80000000 1 ∷ page 0x80010000 1 ∷ [])) (policy_of 1 2 [] (page 0x80000000 3 ∷ []))
    ≡ drained_writes (write Hwcfg2 0 ∷ write (Mdcfg 0) 1 ∷ write (SrcmdEn 0) 2
    ∷ (entry_writes ++ write (EntryAddr 1) 0 ∷ write (EntryAddrh 1) 0 ∷ write (EntryCfg 1) 0 ∷ []))
unfolding lib.Count.count_trailing_zeros lib.Count.ones is_single rule_entries permissions member_writes writes_of image_of rewrites plan_commands
fewer_pages = refl

-- in a unit of 40 domains the high register comes right after its low one
many_domains :
    planned (policy_of 40 1 [] (page 0x80000000 1 ∷ [])) (policy_of 40 1 [] (page 0x80000000 3 ∷ []))
    ≡ drained_writes (write Hwcfg2 0 ∷ write (Mdcfg 0) 1 ∷ write (SrcmdEn 0) 2 ∷ write (SrcmdEnh 0) 0 ∷ entry_writes)
unfolding lib.Count.count_trailing_zeros lib.Count.ones is_single rule_entries permissions member_writes writes_of image_of rewrites plan_commands
many_domains = refl

-- a unit with an entry more, where both need too much
differing_units : plan_refusal (policy_of 1 1 (page 0 1 ∷ []) (page 0 1 ∷ [])) (policy_of 1 2 (page 0 1 ∷ []) (page 0 1 ∷ []))
    ≡ Some (ShapesDiffer 2)
unfolding lib.Count.count_trailing_zeros lib.Count.ones is_single rule_need need_domains need_entries need_refusal plan_refusal
differing_units = refl

-- the old policy needs too many domains, the new one too many entries
both_need_more : plan_refusal (policy_of 1 1 (page 0 1 ∷ []) (page 0 1 ∷ [])) (policy_of 1 1 [] (page 0 1 ∷ page 0 1 ∷ []))
    ≡ Some (Compile false (TooManyDomains 2 1))
unfolding lib.Count.count_trailing_zeros lib.Count.ones is_single rule_need need_domains need_entries need_refusal plan_refusal
both_need_more = refl

-- the new policy alone needs too many entries
newer_needs_more : plan_refusal (policy_of 1 1 [] (page 0 1 ∷ [])) (policy_of 1 1 [] (page 0 1 ∷ page 0 1 ∷ []))
    ≡ Some (Compile true (TooManyEntries 2 1))
unfolding lib.Count.count_trailing_zeros lib.Count.ones is_single rule_need need_domains need_entries need_refusal plan_refusal
newer_needs_more = refl
