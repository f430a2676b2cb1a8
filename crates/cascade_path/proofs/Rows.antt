-- What some lists of events tell, computed.
use Rattle.std.proofs.Common.{◌≡◌, ℕ, true, false, [], ◌∷◌, Some, refl}
use Rattle.event_words.specs.declared.access.Access.{Access}
use Rattle.event_words.specs.declared.access.Kind.TheVariants.{Read}
use Rattle.event_words.specs.declared.event.Event.TheVariants as events
use Rattle.event_words.specs.declared.reply.Denial.{Denial}
use Rattle.event_words.specs.declared.reply.Reply.{Reply}
use Rattle.event_words.specs.declared.reply.Reply.TheVariants as replies
use Rattle.event_words.specs.declared.reply.Verdict.TheVariants as verdicts
use Rattle.event_words.specs.declared.record.LoggedEvent.{LoggedEvent}
use Rattle.cascade_path.specs.declared.chain.ChainReply.TheVariants.{Allowed, Denied, Busy, Open, Odd}
use Rattle.cascade_path.specs.Answers.{chain_reply}

abbrev access_by : ℕ → Access
access_by rrid = record { rrid = rrid; kind = Read; addr = 0x100; len = 4 }

abbrev submitted : ℕ → ℕ → ℕ → Reply → LoggedEvent
submitted place unit rrid reply = record { place = place; event = events.Submit unit 0 (access_by rrid); reply = reply }

abbrev judged : ℕ → ℕ → ℕ → Reply → LoggedEvent
judged place unit at reply = record { place = place; event = events.Judge unit 0 at; reply = reply }

abbrev some_denial : Denial
some_denial = record { kind = 5; entry = 65535; quiet = false; irq = false; kept = true }

held_twice : chain_reply (submitted 4 0 3 replies.Queued ∷ judged 5 0 4 replies.Held ∷ judged 6 0 4 replies.Held ∷ []) ≡ Some (Open 0 4)
held_twice = refl

queue_full : chain_reply (submitted 7 0 3 replies.Busy ∷ []) ≡ Some (Busy 0)
queue_full = refl

denied_at_the_second : chain_reply (submitted 1 0 3 replies.Passed ∷ judged 2 0 1 (replies.Verdict (verdicts.Allowed 5)) ∷ submitted 3 1 5 replies.Passed ∷ judged 4 1 3 (replies.Verdict (verdicts.Denied some_denial)) ∷ []) ≡ Some (Denied 1 some_denial)
denied_at_the_second = refl

stalled_at_the_second : chain_reply (submitted 1 0 3 replies.Passed ∷ judged 2 0 1 (replies.Verdict (verdicts.Allowed 5)) ∷ submitted 3 1 5 (replies.Stalled some_denial) ∷ []) ≡ Some (Denied 1 some_denial)
stalled_at_the_second = refl

both_allow : chain_reply (submitted 1 0 3 replies.Queued ∷ judged 2 0 1 replies.Held ∷ judged 3 0 1 (replies.Verdict (verdicts.Allowed 5)) ∷ submitted 4 1 5 replies.Passed ∷ judged 5 1 4 (replies.Verdict (verdicts.Allowed 63)) ∷ []) ≡ Some (Allowed 63)
both_allow = refl

no_requester : chain_reply (submitted 1 0 3 replies.Passed ∷ judged 2 0 1 (replies.Verdict (verdicts.Allowed 64)) ∷ []) ≡ Some (Odd 0 (replies.Verdict (verdicts.Allowed 64)))
no_requester = refl

sum_of_words : chain_reply (submitted 0 0 3 (replies.Value 5) ∷ []) ≡ Some (Odd 0 (replies.Value 5))
sum_of_words = refl
