-- A narrow history in numbers. While requester 0 is stalled, requester 1 submits and has a verdict; requester 0's
-- submission is queued, and after the release its verdict is the new policy's.
use Rattle.std.proofs.Common.{◌≡◌, ℕ, [], ◌∷◌, ◌++◌, Some, None, map, refl, arith, ◌<◌}
use lib.Count
use Rattle.event_words.specs.Registers.{index_of}
use Rattle.event_words.specs.declared.register.Register.TheVariants.{Hwcfg0, Mdstall, Rridscp}
use Rattle.event_words.specs.declared.access.Access.{Access}
use Rattle.event_words.specs.declared.access.Kind.TheVariants.{Write}
use Rattle.event_words.specs.declared.event.Event.TheVariants.{Submit, Judge}
use Rattle.event_words.specs.declared.reply.Reply.TheVariants.{Passed, Queued, Verdict}
use Rattle.event_words.specs.declared.reply.Verdict.TheVariants.{Allowed}
use Rattle.event_words.specs.Word.{word_of}
use Rattle.event_words.specs.Runs.{caller_of_word}
use Rattle.event_words.proofs.ValidTests.{event_words, valid_shape}
use Rattle.policy_compiler.specs.Policies.{IsPolicy, IsRule, is_single}
use Rattle.policy_compiler.specs.Needs.{need_refusal, need_domains, need_entries, rule_need}
use Rattle.policy_compiler.specs.Commands.{image_section}
use Rattle.policy_compiler.specs.Images.{image_of, writes_of, member_writes, rule_entries}
use Rattle.policy_compiler.specs.Laws.{registers_after}
use Rattle.update_planner.specs.Plans.{rewrites}
use Rattle.unit_core.specs.Histories.{History, reply_at, history_of, logged_in, HasRecord, HaveRecords, BootComesFirst}
use Rattle.unit_core.specs.Updates.{ReadsDrained, IsDrainedReading, IsRelease}
use Rattle.history_laws.proofs.LiveExample.{rule}
use Rattle.history_laws.proofs.WriteRecords.{write_by, drain_read, release_write}
use Rattle.history_laws.proofs.InNumbers.{boot_first, first_reading, last_write, UpdateEvents, write_to, up_to_reading, from_reading, up_to_release, all_events, all_words, update_history, judged, judged_beside, update_in_numbers}
use Rattle.narrow_plans.specs.Views.{view_of}
use Rattle.narrow_plans.specs.BetweenStates.{table_writes, between_states}
use Rattle.narrow_plans.specs.Unaffected.{is_unaffected, affected}
use Rattle.narrow_plans.specs.NarrowPlans.{narrow_commands}
use Rattle.narrow_plans.specs.Laws.{IsNarrowHistory}
use Rattle.narrow_plans.proofs.Examples.{small, with_rights, old, new, tables}

-- an access of requester 0, whose rights change, and one of requester 1, whose rights stay
abbrev changed : Access
changed = record { rrid = 0; kind = Write; addr = 0x80000000; len = 4 }

abbrev own : Access
own = record { rrid = 1; kind = Write; addr = 0x90000000; len = 4 }

abbrev update : UpdateEvents
update = record {
  shape = small;
  boot = map (write_by 0) (tables 0x19 ++ write_to Hwcfg0 1 ∷ []);
  before = write_by 1 (write_to Rridscp 0x40000000) ∷ Submit 0 2 own ∷ [];
  window = drain_read ∷ Submit 0 3 changed ∷ Judge 0 2 13 ∷ (map (write_by 1) (tables 0x1b) ++ write_by 1 release_write ∷ []);
  after = Judge 0 3 15 ∷ [];
}

abbrev history : History
history = update_history update

same_history : history_of (small ∷ []) (all_words update) ≡ history
same_history = refl

-- ---- what is replied

passed : reply_at history 13 ≡ Some Passed
unfolding lib.Count.count_trailing_zeros
passed = refl

held_back : reply_at history 15 ≡ Some Queued
unfolding lib.Count.count_trailing_zeros
held_back = refl

allowed_meanwhile : reply_at history 16 ≡ Some (Verdict (Allowed 1))
unfolding lib.Count.count_trailing_zeros
allowed_meanwhile = refl

allowed_after : reply_at history 29 ≡ Some (Verdict (Allowed 0))
unfolding lib.Count.count_trailing_zeros
allowed_after = refl

drained : ReadsDrained history 14
unfolding lib.Count.count_trailing_zeros
drained = record { value = 0; event = refl; reply = refl; idle = refl }

-- ---- the drained reading and the release

reading : IsDrainedReading history 14
reading = first_reading small (up_to_reading update) (from_reading update) (refl, (refl, (refl, (refl, (refl, (refl, (refl, (refl, (refl, (refl, (refl, (refl, (refl, (refl, tt)))))))))))))) drained

release : IsRelease history 28
release = last_write small (up_to_release update) update.after 14 28 refl (tt, tt) reading (record { unit = 0; index = index_of Mdstall; value = 0; event = refl })

-- ---- it is a narrow history

order : BootComesFirst 3 (all_words update)
unfolding caller_of_word
order = boot_first 3 (map word_of update.boot) (map word_of (update.before ++ from_reading update)) refl refl

boot_record : HasRecord (logged_in (small ∷ []) (all_words update)) 0 (image_section (image_of old))
unfolding image_of writes_of member_writes rule_entries is_single lib.Count.ones lib.Count.count_trailing_zeros
boot_record = refl

lane_records :
    HaveRecords (logged_in (small ∷ []) (all_words update)) 1
    (judged_beside (narrow_commands (image_of old) (image_of new) 8) own changed)
unfolding narrow_commands rewrites affected is_unaffected between_states table_writes view_of registers_after image_of writes_of member_writes rule_entries is_single lib.Count.ones lib.Count.count_trailing_zeros
lane_records = (refl, (refl, (refl, tt)))

rule_at_9 : IsRule (record { from = 0x90000000; size = 0x1000; rights = record { 0 = 3 } })
unfolding is_single lib.Count.ones
rule_at_9 = record { from = omega arith; size = omega arith; some = omega arith; end = omega arith; top = refl; rights = omega arith }

policy : (rights : ℕ) → rights < 8 → IsPolicy (with_rights rights)
policy rights p = record {
  shape = record { valid = valid_shape small refl; mdcfg = refl; srcmd = refl; sps = refl };
  few = omega arith;
  domains = (
    record { rrids = omega arith; few_guards = omega arith; few_grants = omega arith; guards = tt; grants = (rule rights p, tt) },
    (record { rrids = omega arith; few_guards = omega arith; few_grants = omega arith; guards = tt; grants = (rule_at_9, tt) }, tt),
  );
}

fits : (rights : ℕ) → need_refusal (with_rights rights) ≡ None
unfolding need_refusal need_domains need_entries rule_need is_single lib.Count.ones
fits rights = refl

narrow : IsNarrowHistory old new 8 (judged own ∷ judged changed ∷ []) (all_words update)
narrow =
    update_in_numbers update (narrow_commands (image_of old) (image_of new) 8) old new own changed (policy 1 (omega arith)) (policy 3 (omega arith)) refl (fits 1) (fits 3)
    (record { events = event_words (all_events update) refl; order = order; boot_record = boot_record; lane_records = lane_records })
