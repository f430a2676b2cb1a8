-- A live history in numbers, of a unit with high registers: a verdict before the drained reading, which the old
-- policy denies, and one after the release, which the new policy allows.
use Rattle.std.proofs.Common.{◌≡◌, ℕ, List, [], ◌∷◌, ◌++◌, Some, None, map, refl, arith, true, false, ◌<◌}
use lib.Count
use Rattle.event_words.specs.Registers.{index_of}
use Rattle.event_words.specs.declared.register.Register.TheVariants.{Hwcfg0, Hwcfg2, Mdstall, Mdcfg, SrcmdEn, SrcmdEnh, EntryAddr, EntryAddrh, EntryCfg}
use Rattle.event_words.specs.declared.shape.Shape.{Shape}
use Rattle.event_words.specs.declared.access.Access.{Access}
use Rattle.event_words.specs.declared.access.Kind.TheVariants.{Write}
use Rattle.event_words.specs.declared.event.Event.TheVariants.{Submit, Judge}
use Rattle.event_words.specs.declared.reply.Reply.TheVariants.{Verdict, Queued}
use Rattle.event_words.specs.declared.reply.Verdict.TheVariants.{Allowed, Denied}
use Rattle.event_words.specs.Word.{word_of}
use Rattle.event_words.specs.Runs.{caller_of_word}
use Rattle.policy_compiler.specs.declared.image.RegPair.{RegPair}
use Rattle.policy_compiler.specs.Policies.{PolicyOf, IsPolicy, IsRule, is_single}
use Rattle.policy_compiler.specs.Needs.{need_refusal, need_domains, need_entries, rule_need}
use Rattle.policy_compiler.specs.Commands.{image_section}
use Rattle.update_planner.specs.Plans.{plan_commands, rewrites}
use Rattle.policy_compiler.specs.Images.{image_of, writes_of, member_writes, rule_entries}
use Rattle.policy_compiler.specs.Decides.{policy_decision, rule_touches, rule_covers, rule_grants, is_member, guard_kind, grants_kind}
use Rattle.unit_core.specs.Histories.{History, reply_at, history_of, logged_in, HasRecord, HaveRecords, BootComesFirst}
use Rattle.unit_core.specs.Updates.{ReadsDrained, IsDrainedReading, IsRelease}
use Rattle.history_laws.proofs.WriteRecords.{write_by, drain_read, stall, release_write}
use Rattle.history_laws.specs.Live.{IsLiveHistory}
use Rattle.event_words.proofs.ValidTests.{event_words, valid_shape}
use Rattle.history_laws.proofs.InNumbers.{boot_first, first_reading, last_write, UpdateEvents, write_to, up_to_reading, from_reading, up_to_release, all_events, all_words, update_history, judged, judged_beside, update_in_numbers}

abbrev wide : Shape
wide = record { rrids = 1; domains = 40; entries = 1; mdcfg = 0; k = 0; srcmd = 0; sps = false; queue = 1; transl = None }

-- One domain with requester 0, and one grant of 4096 bytes.
abbrev with_rights : ℕ → PolicyOf
with_rights rights = record {
  shape = wide;
  domains = record { name = 97 ∷ []; rrids = 1; guards = []; grants = record { from = 0x80000000; size = 0x1000; rights = record { 0 = rights } } ∷ [] } ∷ [];
}

-- reads alone, and then reads and writes
abbrev old : PolicyOf
old = with_rights 1

abbrev new : PolicyOf
new = with_rights 3

abbrev written : Access
written = record { rrid = 0; kind = Write; addr = 0x80000000; len = 4 }

-- the tables of one entry, which is configured so
abbrev tables : ℕ → List RegPair
tables cfg =
    write_to Hwcfg2 0 ∷ write_to (Mdcfg 0) 1 ∷ write_to (SrcmdEn 0) 2 ∷ write_to (SrcmdEnh 0) 0
    ∷ write_to (EntryAddr 0) 0x200001ff ∷ write_to (EntryAddrh 0) 0 ∷ write_to (EntryCfg 0) cfg ∷ []

old_image : (image_of old).writes ≡ tables 0x19 ++ write_to Hwcfg0 1 ∷ []
unfolding image_of writes_of member_writes rule_entries is_single lib.Count.ones
old_image = refl

old_denies : policy_decision old written ≡ 2
unfolding policy_decision rule_touches rule_covers rule_grants is_member guard_kind grants_kind
old_denies = refl

new_allows : policy_decision new written ≡ 0
unfolding policy_decision rule_touches rule_covers rule_grants is_member guard_kind grants_kind
new_allows = refl

-- Lane 2 is judged before the drained reading, and lane 3 submits while its requester is stalled.
abbrev update : UpdateEvents
update = record {
  shape = wide;
  boot = map (write_by 0) (tables 0x19 ++ write_to Hwcfg0 1 ∷ []);
  before = Submit 0 2 written ∷ write_by 1 stall ∷ Judge 0 2 8 ∷ [];
  window = drain_read ∷ (map (write_by 1) (tables 0x1b) ++ Submit 0 3 written ∷ write_by 1 release_write ∷ []);
  after = Judge 0 3 19 ∷ [];
}

abbrev history : History
history = update_history update

same_history : history_of (wide ∷ []) (all_words update) ≡ history
same_history = refl

-- ---- what is replied

before_reading : reply_at history 10 ≡ Some (Verdict (Denied (record { kind = 2; entry = 0; quiet = false; irq = false; kept = true })))
unfolding lib.Count.count_trailing_zeros
before_reading = refl

drained : ReadsDrained history 11
unfolding lib.Count.count_trailing_zeros
drained = record { value = 0; event = refl; reply = refl; idle = refl }

held_back : reply_at history 19 ≡ Some Queued
unfolding lib.Count.count_trailing_zeros
held_back = refl

after_release : reply_at history 21 ≡ Some (Verdict (Allowed 0))
unfolding lib.Count.count_trailing_zeros
after_release = refl

-- ---- the drained reading and the release

reading : IsDrainedReading history 11
reading = first_reading wide (up_to_reading update) (from_reading update) (refl, (refl, (refl, (refl, (refl, (refl, (refl, (refl, (refl, (refl, (refl, tt))))))))))) drained

release : IsRelease history 20
release = last_write wide (up_to_release update) update.after 11 20 refl (tt, tt) reading (record { unit = 0; index = index_of Mdstall; value = 0; event = refl })

-- ---- it is a live history

order : BootComesFirst 3 (all_words update)
unfolding caller_of_word
order = boot_first 3 (map word_of update.boot) (map word_of (update.before ++ from_reading update)) refl refl

boot_record : HasRecord (logged_in (wide ∷ []) (all_words update)) 0 (image_section (image_of old))
unfolding image_of writes_of member_writes rule_entries is_single lib.Count.ones lib.Count.count_trailing_zeros
boot_record = refl

lane_records :
    HaveRecords (logged_in (wide ∷ []) (all_words update)) 1
    (judged_beside (plan_commands (image_of old) (image_of new) 8) written written)
unfolding image_of writes_of member_writes rule_entries is_single lib.Count.ones lib.Count.count_trailing_zeros plan_commands rewrites
lane_records = (refl, (refl, (refl, tt)))

-- the grant is a rule
pub rule : (rights : ℕ) → rights < 8 → IsRule (record { from = 0x80000000; size = 0x1000; rights = record { 0 = rights } })
unfolding is_single lib.Count.ones
rule rights p = record { from = omega arith; size = omega arith; some = omega arith; end = omega arith; top = refl; rights = p }

policy : (rights : ℕ) → rights < 8 → IsPolicy (with_rights rights)
policy rights p = record {
  shape = record { valid = valid_shape wide refl; mdcfg = refl; srcmd = refl; sps = refl };
  few = omega arith;
  domains = (record { rrids = omega arith; few_guards = omega arith; few_grants = omega arith; guards = tt; grants = (rule rights p, tt) }, tt);
}

fits : (rights : ℕ) → need_refusal (with_rights rights) ≡ None
unfolding need_refusal need_domains need_entries rule_need is_single lib.Count.ones
fits rights = refl

live : IsLiveHistory old new 8 (judged written ∷ judged written ∷ []) (all_words update)
live =
    update_in_numbers update (plan_commands (image_of old) (image_of new) 8) old new written written (policy 1 (omega arith)) (policy 3 (omega arith)) refl (fits 1) (fits 3)
    (record { events = event_words (all_events update) refl; order = order; boot_record = boot_record; lane_records = lane_records })
