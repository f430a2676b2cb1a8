-- The record of a lane of judged transactions: its verdicts are what the tables decide on its accesses.
use Rattle.std.proofs.Common.{◌≡◌, ℕ, ◌+◌, ◌++◌, ◌&&◌, not, Bool, true, false, if◌then◌else◌, List, [], ◌∷◌, Option, Some, None, length, map, refl, sym, ap, ◌∙◌, subst}
use Rattle.std.specs.Prelude.{slice_set, nat_lt}
use Rattle.std.specs.List.{AllByRecursion, cons_option}
use Rattle.std.proofs.lemmas.List.{length-set, length_push}
use Rattle.event_words.specs.declared.access.Access.{Access}
use Rattle.event_words.specs.declared.event.Event.TheVariants as events
use Rattle.event_words.specs.declared.reply.Reply.{Reply}
use Rattle.event_words.specs.declared.reply.Reply.TheVariants as replies
use Rattle.event_words.specs.declared.reply.Verdict.{Verdict}
use Rattle.event_words.specs.declared.record.LoggedEvent.{LoggedEvent}
use Rattle.event_words.specs.declared.record.SectionEnd.{SectionEnd}
use Rattle.event_words.specs.declared.section.Command.{Command}
use Rattle.event_words.specs.declared.section.Command.TheVariants.{Submit, Judge}
use Rattle.event_words.specs.Valid.{is_narrow}
use Rattle.event_words.specs.Events.{same_event}
use Rattle.event_words.specs.Records.{OpenSlot, take_event, take_event_after, wide_event, judgements, is_held, is_taken, is_verdict, slot_of, opened_slot, closed_by, submit_piece, settled, settle_piece, after_piece, end_of_commands}
use Rattle.event_words.proofs.Pairs.{AllPairs, pairs_after}
use Rattle.event_words.proofs.SameEvents.{same_event_is}
use Rattle.event_words.proofs.Cases.{by_test}
use Rattle.history_laws.specs.Live.{kind_of_verdict}
use Rattle.script_generator.specs.Summaries.{reply_code, entry_code, verdict_codes}

-- ---- slots

slot_last : (slots : List (Option OpenSlot)) (o : Option OpenSlot) → slot_of (slots ++ o ∷ []) (length slots) ≡ o
slot_last [] None = refl
slot_last [] (Some s) = refl
slot_last (x ∷ slots) o = slot_last slots o

closed_length : (reply : Reply) (i : ℕ) (slots : List (Option OpenSlot)) → length (closed_by reply i slots) ≡ length slots
closed_length reply i slots = by (is_verdict reply)
  where
    by : (b : Bool) → length (if b then slice_set slots i None else slots) ≡ length slots
    by true = length-set slots i None
    by false = refl

-- ---- one transaction

-- a lane's transactions of these accesses, from a slot on
abbrev pub judged_accesses : ℕ → List Access → List Command
judged_accesses slot [] = []
judged_accesses slot (a ∷ more) = Submit 0 a slot ∷ Judge slot ∷ judged_accesses (slot + 1) more

next_submit : (c : ℕ) (a : Access) (go : List (Option OpenSlot) → List LoggedEvent → Option SectionEnd) (slots : List (Option OpenSlot)) (xs : List LoggedEvent) (end : SectionEnd)
    → after_piece go (submit_piece slots 0 (take_event (events.Submit 0 c a) xs)) ≡ Some end
    → (x : LoggedEvent) × (ys : List LoggedEvent) × (xs ≡ x ∷ ys) × (same_event (events.Submit 0 c a) x.event ≡ true) × (go (slots ++ opened_slot 0 x ∷ []) ys ≡ Some end)
next_submit c a go slots [] end h = absurd (let n : None ≡ Some end = h in cc)
next_submit c a go slots (x ∷ xs) end h =
    by_test (same_event (events.Submit 0 c a) x.event) _
    (λ t. (x, xs, refl, t, subst (λ b. after_piece go (submit_piece slots 0 (if b then Some (x, xs) else None)) ≡ Some end) t h))
    (λ t. absurd (let n : None ≡ Some end = subst (λ b. after_piece go (submit_piece slots 0 (if b then Some (x, xs) else None)) ≡ Some end) t h in cc))

next_judge : (c i p : ℕ) (go : List (Option OpenSlot) → List LoggedEvent → Option SectionEnd) (slots : List (Option OpenSlot)) (xs : List LoggedEvent) (end : SectionEnd)
    → after_piece go (settled slots i (judgements 1 (events.Judge 0 c p) xs)) ≡ Some end
    → (y : LoggedEvent) × (ys : List LoggedEvent) × (xs ≡ y ∷ ys) × (same_event (events.Judge 0 c p) y.event ≡ true) × (go (closed_by y.reply i slots) ys ≡ Some end)
next_judge c i p go slots [] end h = absurd (let n : None ≡ Some end = h in cc)
next_judge c i p go slots (y ∷ ys) end h =
    by_test (same_event (events.Judge 0 c p) y.event) _
    (λ t. (y, ys, refl, t, last (is_held y.reply) (subst (λ b. after_piece go (settled slots i (if not b then None else (if is_held y.reply && nat_lt 0 0 then judgements 0 (events.Judge 0 c p) ys else Some (y.reply, ys)))) ≡ Some end) t h)))
    (λ t. absurd (let n : None ≡ Some end = subst (λ b. after_piece go (settled slots i (if not b then None else (if is_held y.reply && nat_lt 0 0 then judgements 0 (events.Judge 0 c p) ys else Some (y.reply, ys)))) ≡ Some end) t h in cc))
  where
    last : (b : Bool) → after_piece go (settled slots i (if b && nat_lt 0 0 then judgements 0 (events.Judge 0 c p) ys else Some (y.reply, ys))) ≡ Some end → go (closed_by y.reply i slots) ys ≡ Some end
    last true h = h
    last false h = h

-- ---- the lane

-- an access that is submitted by one event
abbrev pub IsNarrow : Access → Type 0
IsNarrow a = is_narrow a ≡ true

module _ (c : ℕ) (decides : Access → Verdict) where
  -- each submission passes
  abbrev pub PassesHere : LoggedEvent → Type 0
  PassesHere x = (a : Access) → x.event ≡ events.Submit 0 c a → x.reply ≡ replies.Passed

  -- and its judgement, which comes next, replies what is decided on its access
  abbrev pub IsDecidedNext : LoggedEvent → LoggedEvent → Type 0
  IsDecidedNext x y = (a : Access) → x.event ≡ events.Submit 0 c a → y.event ≡ events.Judge 0 c x.place → y.reply ≡ replies.Verdict (decides a)

  taken_slot : (x : LoggedEvent) → x.reply ≡ replies.Passed → opened_slot 0 x ≡ Some (record { unit = 0; place = x.place })
  taken_slot x e = ap (λ r. if is_taken r then Some (let s : OpenSlot = record { unit = 0; place = x.place } in s) else None) e

  passed_code : (x : LoggedEvent) → x.reply ≡ replies.Passed → entry_code x ≡ None
  passed_code x e = ap reply_code e

  codes_of_pair : (a : Access) (x y : LoggedEvent) (zs : List LoggedEvent) → x.reply ≡ replies.Passed → y.reply ≡ replies.Verdict (decides a) → verdict_codes (x ∷ y ∷ zs) ≡ kind_of_verdict (decides a) ∷ verdict_codes zs
  codes_of_pair a x y zs p v =
      ap (λ o. cons_option o (verdict_codes (y ∷ zs))) (ap reply_code p) ∙ ap (λ o. cons_option o (verdict_codes zs)) (ap reply_code v)

  pub lane_codes : (accesses : List Access) (slots : List (Option OpenSlot)) (xs : List LoggedEvent) (end : SectionEnd) → end_of_commands c (judged_accesses (length slots) accesses) slots xs ≡ Some end
      → AllByRecursion IsNarrow accesses → AllByRecursion PassesHere xs → AllPairs IsDecidedNext xs → verdict_codes xs ≡ map (λ a. kind_of_verdict (decides a)) accesses
  lane_codes [] slots [] end h w p q = refl
  lane_codes [] slots (x ∷ xs) end h w p q = absurd (let n : None ≡ Some end = h in cc)
  lane_codes (a ∷ more) slots xs end h w p q =
      let n = length slots in
      let rest = judged_accesses (length slots + 1) more in
      let go = end_of_commands c (Judge (length slots) ∷ judged_accesses (length slots + 1) more) in
      let one : after_piece go (submit_piece slots 0 (take_event (events.Submit 0 c a) xs)) ≡ Some end =
      subst (λ (b : Bool). after_piece go (submit_piece slots 0 (if b then take_event (events.Submit 0 c a) xs else take_event_after (wide_event 0 c a) (take_event (events.Aim c a.addr) xs))) ≡ Some end) w.0 h in
      let s = next_submit c a go slots xs end one in
      let x = s.0 in
      let submitted = same_event_is (events.Submit 0 c a) x.event s.3 in
      let passing = subst (AllByRecursion PassesHere) s.2 p in
      let passed : x.reply ≡ replies.Passed = passing.0 a submitted in
      let opened = slots ++ opened_slot 0 s.0 ∷ [] in
      let slot : slot_of opened (length slots) ≡ Some (record { unit = 0; place = x.place }) = slot_last slots (opened_slot 0 s.0) ∙ taken_slot s.0 passed in
      let goes = subst (λ o. after_piece (end_of_commands c (judged_accesses (length slots + 1) more)) (settle_piece c 1 opened (length slots) o s.1) ≡ Some end) slot s.4 in
      let t = next_judge c (length slots) x.place (end_of_commands c (judged_accesses (length slots + 1) more)) opened s.1 end goes in
      let y = t.0 in
      let judged = same_event_is (events.Judge 0 c x.place) y.event t.3 in
      let both : xs ≡ s.0 ∷ t.0 ∷ t.1 = s.2 ∙ ap (λ ys. s.0 ∷ ys) t.2 in
      let pairs = subst (AllPairs IsDecidedNext) both q in
      let all = subst (AllByRecursion PassesHere) both p in
      let decided : y.reply ≡ replies.Verdict (decides a) = pairs.0 a submitted judged in
      let closed = closed_by y.reply (length slots) opened in
      let long : length closed ≡ length slots + 1 = closed_length y.reply (length slots) opened ∙ length_push slots (opened_slot 0 s.0) in
      let later = lane_codes more closed t.1 end (subst (λ k. end_of_commands c (judged_accesses k more) closed t.1 ≡ Some end) (sym long) t.4) w.1 all.1.1 (pairs_after IsDecidedNext t.0 t.1 pairs.1) in
      ap verdict_codes both ∙ codes_of_pair a s.0 t.0 t.1 passed decided ∙ ap (λ cs. kind_of_verdict (decides a) ∷ cs) later
