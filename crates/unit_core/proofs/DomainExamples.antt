-- Worked examples of units with more than 31 domains, or more than 16 requesters in SRCMD format 2.
use Rattle.std.proofs.Common.{◌≡◌, ℕ, refl, List, [], ◌∷◌, ◌++◌, None, false, true}
use lib.Count
use Rattle.event_words.specs.declared.shape.Shape.{Shape}
use Rattle.event_words.specs.declared.access.Kind.TheVariants.{Read, Write}
use Rattle.event_words.specs.declared.event.Event.{Event}
use Rattle.event_words.specs.declared.reply.Reply.TheVariants.{Value, Passed, Queued, Held, Verdict}
use Rattle.event_words.specs.declared.reply.Verdict.TheVariants.{Allowed}
use Rattle.unit_core.proofs.ExampleEvents.{plain_unit, replies, record_of, w, t, j, violation, none, begun, begun_replies, page, page_replies}

-- ---- a domain of the high registers

abbrev forty_domains : Shape
forty_domains = record { rrids = 2; domains = 40; entries = 4; mdcfg = 0; k = 0; srcmd = 0; sps = false; queue = 2; transl = None }

-- Domain 39 owns all entries, and requester 1 is associated with it.
abbrev last_domain : List Event
last_domain = w 0x89c 0x4 ∷ w 0x1024 0x100 ∷ w 0x2000 0x200001ff ∷ w 0x2008 0x19 ∷ w 0x8 0x1 ∷ []

-- It is stalled by the high selection, which counts at the next write of MDSTALL, and its bit is kept by
-- the high lock.
last_domain_stalled : replies forty_domains (last_domain ++ w 0x34 0x100 ∷ w 0x30 0x0 ∷ t 1 Read 0x80000000 4 ∷ w 0x34 0x0 ∷ j 7 ∷ w 0x44 0x100 ∷ w 0x1024 0x0 ∷ w 0x30 0x0 ∷ j 7 ∷ [])
    ≡ Value 0x4 ∷ Value 0x100 ∷ Value 0x200001ff ∷ Value 0x19 ∷ Value 0x2051
    ∷ Value 0x100 ∷ Value 0x0 ∷ Queued ∷ Value 0x0 ∷ Held ∷ Value 0x100 ∷ Value 0x100 ∷ Value 0x0 ∷ Verdict (Allowed 1) ∷ []
unfolding lib.Count.count_trailing_zeros
last_domain_stalled = refl

-- bits past the last domain are no fields, in the high registers too
past_the_last_domain : replies forty_domains (w 0x34 0xffffffff ∷ w 0x44 0xffffffff ∷ w 0x1024 0xffffffff ∷ w 0x30 0xfffffffe ∷ w 0x100c 0xffffffff ∷ [])
    ≡ Value 0x1ff ∷ Value 0x1ff ∷ Value 0x0 ∷ Value 0xfffffffe ∷ Value 0x0 ∷ []
past_the_last_domain = refl

-- with 31 domains or fewer the high registers have no fields
no_high_fields : replies plain_unit (w 0x34 0xffffffff ∷ w 0x44 0xffffffff ∷ w 0x1004 0xffffffff ∷ w 0x1024 0xffffffff ∷ [])
    ≡ Value 0x0 ∷ Value 0x0 ∷ Value 0x0 ∷ Value 0x0 ∷ []
no_high_fields = refl

-- bit l of MDLCK locks the high register too
whole_lock : replies forty_domains (w 0x44 0x80 ∷ w 0x40 0x1 ∷ w 0x44 0x100 ∷ w 0x40 0x2 ∷ [])
    ≡ Value 0x80 ∷ Value 0x1 ∷ Value 0x80 ∷ Value 0x1 ∷ []
whole_lock = refl

-- the lock of a requester's low register keeps its high one
requester_lock : replies forty_domains (w 0x1024 0x2 ∷ w 0x1020 0x1 ∷ w 0x1024 0x4 ∷ [])
    ≡ Value 0x2 ∷ Value 0x1 ∷ Value 0x2 ∷ []
requester_lock = refl

-- ---- the borders of the low registers

abbrev with_domains : ℕ → Shape
with_domains n = record { rrids = 2; domains = n; entries = 4; mdcfg = 0; k = 0; srcmd = 0; sps = false; queue = 2; transl = None }

-- 31 domains fill the low registers
low_registers_full : replies (with_domains 31) (w 0x40 0xfffffffe ∷ w 0x44 0xffffffff ∷ w 0x34 0xffffffff ∷ w 0x1004 0xffffffff ∷ w 0x1000 0xfffffffe ∷ [])
    ≡ Value 0xfffffffe ∷ Value 0x0 ∷ Value 0x0 ∷ Value 0x0 ∷ Value 0x0 ∷ []
low_registers_full = refl

-- the 32nd has the first bit of the high ones, and its lock guards that bit alone
first_high_bit : replies (with_domains 32) (w 0x34 0xffffffff ∷ w 0x1004 0xffffffff ∷ w 0x1000 0xfffffffe ∷ w 0x44 0xffffffff ∷ w 0x1004 0x0 ∷ w 0x1000 0x0 ∷ w 0x40 0x2 ∷ w 0x1020 0xffffffff ∷ [])
    ≡ Value 0x1 ∷ Value 0x1 ∷ Value 0xfffffffe ∷ Value 0x1 ∷ Value 0x1 ∷ Value 0x0 ∷ Value 0x2 ∷ Value 0xfffffffd ∷ []
first_high_bit = refl

-- ---- grants and addresses

-- read by the high register of reads, write by that of writes
high_grants : replies (record forty_domains { sps = true }) (w 0x89c 0x4 ∷ w 0x1024 0x100 ∷ w 0x102c 0x100 ∷ w 0x1034 0xff ∷ w 0x2000 0x200001ff ∷ w 0x2008 0x1b ∷ w 0x8 0x1
    ∷ t 1 Read 0x80000000 4 ∷ j 7 ∷ t 1 Write 0x80000000 4 ∷ j 9 ∷ [])
    ≡ Value 0x4 ∷ Value 0x100 ∷ Value 0x100 ∷ Value 0xff ∷ Value 0x200001ff ∷ Value 0x1b ∷ Value 0x2851 ∷ Passed ∷ Verdict (Allowed 1) ∷ Passed ∷ violation 2 0 ∷ []
unfolding lib.Count.count_trailing_zeros
high_grants = refl

-- an entry 2 ^ 40 bytes above the transaction has no byte of it
far_above : replies plain_unit (begun ++ page ++ w 0x2004 0x40 ∷ t 3 Read 0x80000000 4 ∷ j 6 ∷ w 0x2004 0x0 ∷ t 3 Read 0x80000000 4 ∷ j 9 ∷ [])
    ≡ begun_replies ++ page_replies ++ Value 0x40 ∷ Passed ∷ violation 5 none ∷ Value 0x0 ∷ Passed ∷ Verdict (Allowed 3) ∷ []
unfolding lib.Count.count_trailing_zeros
far_above = refl

-- ---- a requester of the high register in format 2

abbrev twenty_requesters : Shape
twenty_requesters = record { rrids = 20; domains = 1; entries = 1; mdcfg = 0; k = 0; srcmd = 2; sps = false; queue = 1; transl = None }

abbrev high_permission : List Event
high_permission = w 0x800 0x1 ∷ w 0x1004 0x10 ∷ w 0x2000 0x200001ff ∷ w 0x2008 0x1b ∷ w 0x8 0x1 ∷ t 18 Read 0x80000000 4 ∷ j 5 ∷ t 18 Write 0x80000000 4 ∷ j 7 ∷ []

high_permission_replies : replies twenty_requesters high_permission
    ≡ Value 0x1 ∷ Value 0x10 ∷ Value 0x200001ff ∷ Value 0x1b ∷ Value 0x2403 ∷ Passed ∷ Verdict (Allowed 18) ∷ Passed ∷ violation 2 0 ∷ []
unfolding lib.Count.count_trailing_zeros
high_permission_replies = refl

high_permission_record : record_of twenty_requesters high_permission ≡ 0x25 ∷ 0x20000000 ∷ 0x0 ∷ 0x12 ∷ []
unfolding lib.Count.count_trailing_zeros
high_permission_record = refl

-- requesters 20 to 31 have no bits, and a locked domain keeps both registers
locked_permissions : replies twenty_requesters (w 0x1004 0xffffffff ∷ w 0x40 0x2 ∷ w 0x1004 0x0 ∷ w 0x1000 0x0 ∷ [])
    ≡ Value 0xff ∷ Value 0x2 ∷ Value 0xff ∷ Value 0x0 ∷ []
locked_permissions = refl

-- requester 15 has the last two bits of the low register, and with 16 requesters the high one has none
sixteen_requesters : replies (record twenty_requesters { rrids = 16 }) (w 0x1000 0xc0000000 ∷ w 0x1004 0xffffffff ∷ [])
    ≡ Value 0xc0000000 ∷ Value 0x0 ∷ []
sixteen_requesters = refl
