-- The record of a section, event by event: which event must come next, and what follows once its place
-- and its reply are known. A list of events is a record by the definition exactly where it is one so.
use Rattle.std.proofs.Common.{◌≡◌, ℕ, zero, suc, ◌++◌, Bool, true, false, not, ◌&&◌, if◌then◌else◌, List, [], ◌∷◌, Option, Some, None, refl}
use Rattle.std.specs.Prelude.{nat_lt}
use Rattle.event_words.specs.declared.access.Access.{Access}
use Rattle.event_words.specs.declared.event.Event.{Event}
use Rattle.event_words.specs.declared.event.Event.TheVariants as events
use Rattle.event_words.specs.declared.reply.Reply.{Reply}
use Rattle.event_words.specs.declared.record.LoggedEvent.{LoggedEvent}
use Rattle.event_words.specs.declared.record.SectionEnd.{SectionEnd}
use Rattle.event_words.specs.declared.record.SectionEnd.TheVariants.{Done, Stopped}
use Rattle.event_words.specs.declared.section.Command.{Command}
use Rattle.event_words.specs.declared.section.Command.TheVariants.{Write, Read, Submit, Judge, Settle, Until, Through}
use Rattle.event_words.specs.Events.{same_event}
use Rattle.event_words.specs.Sections.{stage_units}
use Rattle.event_words.specs.Valid.{is_narrow}
use Rattle.event_words.specs.Records.{OpenSlot, take_event, judgements, polls, is_held, is_taken, is_aimed, hits, wide_event, take_event_after, take_submission, opened_slot, closed_by, one_piece, submit_piece, settled, settle_piece, until_piece, next_requester, stage_following, stage_judged, stage_piece, aimed_piece, one_stage, through_stages, through_piece, piece, nothing_left, after_piece, end_of_commands, slot_of}
use Rattle.event_words.proofs.SameEvents.{same_event_is}

-- What is left of a record: nothing, no events at all that would do, or this event and what is left then.
pub data Expected : Type 0 where
  Ends : SectionEnd → Expected
  Never : Expected
  Next : Event → (LoggedEvent → Expected) → Expected

-- How a record ends of which this is left, where the events are what is left.
abbrev pub end_of : Expected → List LoggedEvent → Option SectionEnd
end_of (Ends end) xs = nothing_left end xs
end_of Never xs = None
end_of (Next e go) [] = None
end_of (Next e go) (x ∷ xs) = if same_event e x.event then end_of (go x) xs else None

-- no end is one
pub none_some : {A : Type 0} {P : Type 0} (a : A) → None ≡ Some a → P
none_some a h = absurd (let n : None ≡ Some a = h in cc)

-- where an event is expected, the first is that event
pub next_is : (e : Event) (go : LoggedEvent → Expected) (x : LoggedEvent) (xs : List LoggedEvent) (end : SectionEnd)
    → end_of (Next e go) (x ∷ xs) ≡ Some end → (x.event ≡ e) × (end_of (go x) xs ≡ Some end)
next_is e go x xs end h = by (same_event e x.event) refl h
  where
    by : (b : Bool) → same_event e x.event ≡ b → (if b then end_of (go x) xs else None) ≡ Some end → (x.event ≡ e) × (end_of (go x) xs ≡ Some end)
    by true t h = (same_event_is e x.event t, h)
    by false t h = none_some end h

-- ---- what a section expects

-- the event up to n times, as long as its reply says so, and then what follows its last reply
abbrev pub repeated : ℕ → Event → (Reply → Bool) → (Reply → Expected) → Expected
repeated zero e again go = Never
repeated (suc n) e again go = Next e (λ x. if again x.reply && nat_lt 0 n then repeated n e again go else go x.reply)

-- a read that doesn't hit
abbrev pub misses : ℕ → ℕ → Reply → Bool
misses mask value reply = not (hits mask value reply)

-- a submission of one event or two, and then what follows its last event
abbrev pub submission : ℕ → ℕ → Access → (LoggedEvent → Expected) → Expected
submission unit caller access go =
    if is_narrow access then Next (events.Submit unit caller access) go
    else Next (events.Aim caller access.addr) (λ x. Next (wide_event unit caller access) go)

-- `go` for the next requester, if there is one
abbrev pub following : (ℕ → Expected) → Expected → Option ℕ → Expected
following go over None = over
following go over (Some next) = go next

-- behind the last event of a stage's submission
abbrev pub judged_stage : ℕ → ℕ → ℕ → (ℕ → Expected) → Expected → LoggedEvent → Expected
judged_stage caller max unit go over x =
    if is_taken x.reply then repeated max (events.Judge unit caller x.place) is_held (λ r. following go over (next_requester r))
    else over

-- one stage, and then `go` for the next requester, or what follows all stages
abbrev pub stage : ℕ → ℕ → ℕ → Access → (ℕ → Expected) → Expected → Expected
stage caller max unit access go over =
    if is_narrow access then Next (events.Submit unit caller access) (judged_stage caller max unit go over)
    else Next (events.Aim caller access.addr)
    (λ x. if is_aimed x.reply then Next (wide_event unit caller access) (judged_stage caller max unit go over) else over)

abbrev pub stages : ℕ → ℕ → Access → Expected → List ℕ → ℕ → Expected
stages caller max access over [] rrid = over
stages caller max access over (u ∷ us) rrid = stage caller max u (record access { rrid = rrid }) (stages caller max access over us) over

-- the judgements of a slot, where it is open
abbrev pub judged_slot : ℕ → ℕ → List (Option OpenSlot) → ℕ → (List (Option OpenSlot) → Expected) → Option OpenSlot → Expected
judged_slot caller max slots i go None = go slots
judged_slot caller max slots i go (Some slot) =
    repeated max (events.Judge slot.unit caller slot.place) is_held (λ r. go (closed_by r i slots))

-- a command, and then `go` with the slots that it leaves
abbrev pub command : ℕ → List (Option OpenSlot) → (List (Option OpenSlot) → Expected) → Command → Expected
command caller slots go (Write unit index value) = Next (events.RegWrite unit caller index value) (λ x. go slots)
command caller slots go (Read unit index) = Next (events.RegRead unit caller index) (λ x. go slots)
command caller slots go (Submit unit access slot) = submission unit caller access (λ x. go (slots ++ opened_slot unit x ∷ []))
command caller slots go (Judge slot) = judged_slot caller 1 slots slot go (slot_of slots slot)
command caller slots go (Settle slot max) = judged_slot caller max slots slot go (slot_of slots slot)
command caller slots go (Until unit index mask value max) =
    repeated max (events.RegRead unit caller index) (misses mask value) (λ r. if hits mask value r then go slots else Ends Stopped)
command caller slots go (Through units access max) = stages caller max access (go slots) (stage_units units) access.rrid

abbrev pub expected : ℕ → List Command → List (Option OpenSlot) → Expected
expected caller [] slots = Ends Done
expected caller (c ∷ cs) slots = command caller slots (expected caller cs) c

-- ---- it is the definition's

-- Of a part that the definition takes, what is made of it is the end of what is expected behind it.
abbrev IsRest : {A : Type 0} → (Option (A × List LoggedEvent) → Option SectionEnd) → (A → Expected) → Type 0
IsRest {A} C go = (C None ≡ None) × ((a : A) (xs : List LoggedEvent) → C (Some (a, xs)) ≡ end_of (go a) xs)

one_is : (C : Option (LoggedEvent × List LoggedEvent) → Option SectionEnd) (go : LoggedEvent → Expected) → IsRest C go
    → (e : Event) (xs : List LoggedEvent) → C (take_event e xs) ≡ end_of (Next e go) xs
one_is C go h e [] = h.0
one_is C go h e (x ∷ xs) = by (same_event e x.event)
  where
    by : (b : Bool) → C (if b then Some (x, xs) else None) ≡ (if b then end_of (go x) xs else None)
    by true = h.1 x xs
    by false = h.0

-- one more of a repeated event
again_is : {A : Type 0} (C : Option (A × List LoggedEvent) → Option SectionEnd) → C None ≡ None
    → (same again : Bool) (more last : Option (A × List LoggedEvent)) (p q : Expected) (xs : List LoggedEvent)
    → C more ≡ end_of p xs → C last ≡ end_of q xs
    → C (if not same then None else (if again then more else last)) ≡ (if same then end_of (if again then p else q) xs else None)
again_is C none false again more last p q xs h g = none
again_is C none true true more last p q xs h g = h
again_is C none true false more last p q xs h g = g

judgements_is : (C : Option (Reply × List LoggedEvent) → Option SectionEnd) (go : Reply → Expected) → IsRest C go
    → (n : ℕ) (e : Event) (xs : List LoggedEvent) → C (judgements n e xs) ≡ end_of (repeated n e is_held go) xs
judgements_is C go h zero e xs = h.0
judgements_is C go h (suc n) e [] = h.0
judgements_is C go h (suc n) e (x ∷ xs) =
    again_is C h.0 (same_event e x.event) (is_held x.reply && nat_lt 0 n) _ _ _ _ xs (judgements_is C go h n e xs) (h.1 x.reply xs)

polls_is : (C : Option (Bool × List LoggedEvent) → Option SectionEnd) (go : Bool → Expected) → IsRest C go
    → (n : ℕ) (e : Event) (mask value : ℕ) (xs : List LoggedEvent)
    → C (polls n e mask value xs) ≡ end_of (repeated n e (misses mask value) (λ r. go (hits mask value r))) xs
polls_is C go h zero e mask value xs = h.0
polls_is C go h (suc n) e mask value [] = h.0
polls_is C go h (suc n) e mask value (x ∷ xs) =
    again_is C h.0 (same_event e x.event) (misses mask value x.reply && nat_lt 0 n) _ _ _ _ xs (polls_is C go h n e mask value xs)
    (h.1 (hits mask value x.reply) xs)

submission_is : (C : Option (LoggedEvent × List LoggedEvent) → Option SectionEnd) (go : LoggedEvent → Expected) → IsRest C go
    → (unit caller : ℕ) (access : Access) (xs : List LoggedEvent)
    → C (take_submission unit caller access xs) ≡ end_of (submission unit caller access go) xs
submission_is C go h unit caller access xs = by (is_narrow access)
  where
    wide : Event
    wide = wide_event unit caller access

    by : (narrow : Bool)
        → C (if narrow then take_event (events.Submit unit caller access) xs else take_event_after wide (take_event (events.Aim caller access.addr) xs))
        ≡ end_of (if narrow then Next (events.Submit unit caller access) go else Next (events.Aim caller access.addr) (λ x. Next wide go)) xs
    by true = one_is C go h (events.Submit unit caller access) xs
    by false = one_is (λ o. C (take_event_after wide o)) (λ x. Next wide go) (h.0, λ x ys. one_is C go h wide ys) (events.Aim caller access.addr) xs

-- ---- stages

-- What is made of the events behind a stage: the end of what is expected from the next one on, or behind all.
abbrev IsOnward : (Option (List LoggedEvent) → Option SectionEnd) → (ℕ → List LoggedEvent → Option (List LoggedEvent))
    → (ℕ → Expected) → Expected → Type 0
IsOnward C more go over = (C None ≡ None) × ((xs : List LoggedEvent) → C (Some xs) ≡ end_of over xs)
    × ((next : ℕ) (xs : List LoggedEvent) → C (more next xs) ≡ end_of (go next) xs)

following_is : (C : Option (List LoggedEvent) → Option SectionEnd) (more : ℕ → List LoggedEvent → Option (List LoggedEvent))
    (go : ℕ → Expected) (over : Expected) → IsOnward C more go over
    → (o : Option ℕ) (xs : List LoggedEvent) → C (stage_following more o xs) ≡ end_of (following go over o) xs
following_is C more go over h None xs = h.1 xs
following_is C more go over h (Some next) xs = h.2 next xs

judged_is : (C : Option (List LoggedEvent) → Option SectionEnd) (more : ℕ → List LoggedEvent → Option (List LoggedEvent))
    (go : ℕ → Expected) (over : Expected) → IsOnward C more go over → (caller max unit : ℕ)
    → IsRest (λ o. C (stage_piece caller max unit more o)) (judged_stage caller max unit go over)
judged_is C more go over h caller max unit = (h.0, λ x xs. by x xs (is_taken x.reply))
  where
    judge : LoggedEvent → Event
    judge x = events.Judge unit caller x.place

    by : (x : LoggedEvent) (xs : List LoggedEvent) (taken : Bool)
        → C (if taken then stage_judged more (judgements max (judge x) xs) else Some xs)
        ≡ end_of (if taken then repeated max (judge x) is_held (λ r. following go over (next_requester r)) else over) xs
    by x xs true = judgements_is (λ o. C (stage_judged more o)) (λ r. following go over (next_requester r))
        (h.0, λ r ys. following_is C more go over h (next_requester r) ys) max (judge x) xs
    by x xs false = h.1 xs

stage_is : (C : Option (List LoggedEvent) → Option SectionEnd) (more : ℕ → List LoggedEvent → Option (List LoggedEvent))
    (go : ℕ → Expected) (over : Expected) → IsOnward C more go over → (caller max unit : ℕ) (access : Access) (xs : List LoggedEvent)
    → C (one_stage caller max unit access more xs) ≡ end_of (stage caller max unit access go over) xs
stage_is C more go over h caller max unit access xs = by (is_narrow access)
  where
    wide : Event
    wide = wide_event unit caller access

    judged : LoggedEvent → Expected
    judged = judged_stage caller max unit go over

    here : (e : Event) (ys : List LoggedEvent) → C (stage_piece caller max unit more (take_event e ys)) ≡ end_of (Next e judged) ys
    here e ys = one_is (λ o. C (stage_piece caller max unit more o)) judged (judged_is C more go over h caller max unit) e ys

    aimed : (ys : List LoggedEvent) (b : Bool)
        → C (if b then stage_piece caller max unit more (take_event wide ys) else Some ys) ≡ end_of (if b then Next wide judged else over) ys
    aimed ys true = here wide ys
    aimed ys false = h.1 ys

    by : (narrow : Bool)
        → C (if narrow then stage_piece caller max unit more (take_event (events.Submit unit caller access) xs)
        else aimed_piece caller max unit more wide (take_event (events.Aim caller access.addr) xs))
        ≡ end_of (if narrow then Next (events.Submit unit caller access) judged
        else Next (events.Aim caller access.addr) (λ x. if is_aimed x.reply then Next wide judged else over)) xs
    by true = here (events.Submit unit caller access) xs
    by false = one_is (λ o. C (aimed_piece caller max unit more wide o)) (λ x. if is_aimed x.reply then Next wide judged else over)
        (h.0, λ x ys. aimed ys (is_aimed x.reply)) (events.Aim caller access.addr) xs

stages_is : (C : Option (List LoggedEvent) → Option SectionEnd) (over : Expected) → C None ≡ None
    → ((xs : List LoggedEvent) → C (Some xs) ≡ end_of over xs) → (caller max : ℕ) (access : Access) (us : List ℕ) (rrid : ℕ) (xs : List LoggedEvent)
    → C (through_stages caller max access us rrid xs) ≡ end_of (stages caller max access over us rrid) xs
stages_is C over none h caller max access [] rrid xs = h xs
stages_is C over none h caller max access (u ∷ us) rrid xs =
    stage_is C (through_stages caller max access us) (stages caller max access over us) over
    (none, h, λ next ys. stages_is C over none h caller max access us next ys) caller max u (record access { rrid = rrid }) xs

-- ---- commands

-- What is made of what a command leaves is the end of what is expected with its slots.
module _ (rest : List (Option OpenSlot) → List LoggedEvent → Option SectionEnd) (go : List (Option OpenSlot) → Expected)
    (h : (slots : List (Option OpenSlot)) (xs : List LoggedEvent) → rest slots xs ≡ end_of (go slots) xs) where
  slot_is : (caller max : ℕ) (slots : List (Option OpenSlot)) (i : ℕ) (o : Option OpenSlot) (xs : List LoggedEvent)
      → after_piece rest (settle_piece caller max slots i o xs) ≡ end_of (judged_slot caller max slots i go o) xs
  slot_is caller max slots i None xs = h slots xs
  slot_is caller max slots i (Some slot) xs =
      judgements_is (λ o. after_piece rest (settled slots i o)) (λ r. go (closed_by r i slots)) (refl, λ r ys. h (closed_by r i slots) ys) max
      (events.Judge slot.unit caller slot.place) xs

  until_is : (slots : List (Option OpenSlot)) → IsRest (λ o. after_piece rest (until_piece slots o)) (λ hit. if hit then go slots else Ends Stopped)
  until_is slots = (refl, by)
    where
      by : (hit : Bool) (xs : List LoggedEvent) → after_piece rest (until_piece slots (Some (hit, xs))) ≡ end_of (if hit then go slots else Ends Stopped) xs
      by true xs = h slots xs
      by false xs = refl

  command_is : (caller : ℕ) (slots : List (Option OpenSlot)) (c : Command) (xs : List LoggedEvent)
      → after_piece rest (piece caller slots c xs) ≡ end_of (command caller slots go c) xs
  command_is caller slots (Write unit index value) xs =
      one_is (λ o. after_piece rest (one_piece slots o)) (λ x. go slots) (refl, λ x ys. h slots ys) (events.RegWrite unit caller index value) xs
  command_is caller slots (Read unit index) xs =
      one_is (λ o. after_piece rest (one_piece slots o)) (λ x. go slots) (refl, λ x ys. h slots ys) (events.RegRead unit caller index) xs
  command_is caller slots (Submit unit access slot) xs =
      submission_is (λ o. after_piece rest (submit_piece slots unit o)) (λ x. go (slots ++ opened_slot unit x ∷ []))
      (refl, λ x ys. h (slots ++ opened_slot unit x ∷ []) ys) unit caller access xs
  command_is caller slots (Judge slot) xs = slot_is caller 1 slots slot (slot_of slots slot) xs
  command_is caller slots (Settle slot max) xs = slot_is caller max slots slot (slot_of slots slot) xs
  command_is caller slots (Until unit index mask value max) xs =
      polls_is (λ o. after_piece rest (until_piece slots o)) (λ hit. if hit then go slots else Ends Stopped) (until_is slots) max
      (events.RegRead unit caller index) mask value xs
  command_is caller slots (Through units access max) xs =
      stages_is (λ o. after_piece rest (through_piece slots o)) (go slots) refl (λ ys. h slots ys) caller max access (stage_units units) access.rrid xs

-- A list of events is a record of the commands from here on exactly where it is what they expect.
pub expected_is : (caller : ℕ) (cs : List Command) (slots : List (Option OpenSlot)) (xs : List LoggedEvent)
    → end_of_commands caller cs slots xs ≡ end_of (expected caller cs slots) xs
expected_is caller [] slots xs = refl
expected_is caller (c ∷ cs) slots xs =
    command_is (end_of_commands caller cs) (expected caller cs) (λ ss ys. expected_is caller cs ss ys) caller slots c xs
