-- Whatever has come, the rest of a record can be completed: each event that is left is answered NoSuch.
use Rattle.std.proofs.Common.{◌≡◌, ◌++◌, ◌&&◌, nat_lt, if◌then◌else◌, ℕ, zero, suc, ◌≤◌, Bool, true, false, not, List, [], ◌∷◌, Option, Some, None, IsSome, drop, refl, sym, ap, subst, ◌∙◌, arith}
use Rattle.std.specs.List.{AllByRecursion}
use Rattle.event_words.specs.declared.access.Access.{Access}
use Rattle.event_words.specs.declared.event.Event.{Event}
use Rattle.event_words.specs.declared.event.Event.TheVariants as events
use Rattle.event_words.specs.declared.reply.Reply.{Reply}
use Rattle.event_words.specs.declared.reply.Reply.TheVariants as replies
use Rattle.event_words.specs.declared.record.LoggedEvent.{LoggedEvent}
use Rattle.event_words.specs.declared.record.SectionEnd.{SectionEnd}
use Rattle.event_words.specs.declared.section.Command.{Command}
use Rattle.event_words.specs.declared.section.Command.TheVariants.{Write, Read, Submit, Judge, Settle, Until, Through}
use Rattle.event_words.specs.Sections.{stage_units}
use Rattle.event_words.specs.Valid.{is_narrow}
use Rattle.event_words.specs.Records.{OpenSlot, take_event, judgements, polls, is_held, is_taken, hits, opened_slot, closed_by, one_piece, submit_piece, settled, settle_piece, until_piece, next_requester, stage_following, stage_judged, stage_piece, aimed_piece, one_stage, take_event_after, wide_event, take_submission, is_aimed, through_stages, through_piece, after_piece, end_of_commands, slot_of}
use Rattle.event_words.proofs.SameEvents.{same_event_self}
use Rattle.section_cursor.specs.declared.ahead.Chain.{Chain}
use Rattle.section_cursor.specs.declared.ahead.Part.{Part}
use Rattle.section_cursor.specs.declared.ahead.Part.TheVariants.{Alone, Submission, Aiming, Judging, Polling, StageAiming, Stage, StageJudging}
use Rattle.section_cursor.specs.Cursors.{end_after, stages_on, HasTries, PartHasTries}
use Rattle.section_cursor.proofs.Beginnings.{positive}

-- ---- events that are answered NoSuch

abbrev answer : Event → LoggedEvent
answer e = record { place = 0; event = e; reply = replies.NoSuch }

abbrev pub pair : {A : Type 0} → A → List LoggedEvent → A × List LoggedEvent
pair a xs = (a, xs)

abbrev pub Completes : (List LoggedEvent → Option SectionEnd) → Type 0
Completes f = (xs : List LoggedEvent) × IsSome (f xs)

first_self : (e : Event) (xs : List LoggedEvent) → take_event e (answer e ∷ xs) ≡ Some (pair (answer e) xs)
first_self e xs = rw same_event_self refl

judged_self : (n : ℕ) (e : Event) (xs : List LoggedEvent) → judgements (suc n) e (answer e ∷ xs) ≡ Some (pair replies.NoSuch xs)
judged_self n e xs = rw same_event_self refl

polls_self : (n : ℕ) (e : Event) (mask value : ℕ) (xs : List LoggedEvent) → polls (suc n) e mask value (answer e ∷ xs) ≡ (if nat_lt 0 n then polls n e mask value xs else Some (pair false xs))
polls_self n e mask value xs = rw same_event_self refl

-- reads that all miss
missed : (n : ℕ) (e : Event) (mask value : ℕ) → (xs : List LoggedEvent) × (polls (suc n) e mask value xs ≡ Some (pair false []))
missed zero e mask value = (answer e ∷ [], polls_self zero e mask value [])
missed (suc n) e mask value =
    let rest = missed n e mask value in
    (answer e ∷ rest.0, polls_self (suc n) e mask value rest.0 ∙ rw positive rest.1)

-- a stage whose submission isn't taken, or whose aim isn't replied so
stage_passed : (caller max unit : ℕ) (access : Access) (go : ℕ → List LoggedEvent → Option (List LoggedEvent)) (after : List LoggedEvent) (narrow : Bool) → is_narrow access ≡ narrow
    → (xs : List LoggedEvent) × (one_stage caller max unit access go xs ≡ Some after)
stage_passed caller max unit access go after true e =
    let s = events.Submit unit caller access in
    let a = events.Aim caller access.addr in
    let xs = answer s ∷ after in (
      xs,
      ap (λ (z : Bool). if z then stage_piece caller max unit go (take_event s xs) else aimed_piece caller max unit go (wide_event unit caller access) (take_event a xs)) e
          ∙ ap (λ o. stage_piece caller max unit go o) (first_self s after),
    )
stage_passed caller max unit access go after false e =
    let s = events.Submit unit caller access in
    let a = events.Aim caller access.addr in
    let xs = answer a ∷ after in (
      xs,
      ap (λ (z : Bool). if z then stage_piece caller max unit go (take_event s xs) else aimed_piece caller max unit go (wide_event unit caller access) (take_event a xs)) e
          ∙ ap (λ o. aimed_piece caller max unit go (wide_event unit caller access) o) (first_self a after),
    )

-- stages, of which the first isn't taken
passed_over : (caller max : ℕ) (access : Access) (us : List ℕ) (rrid : ℕ) (after : List LoggedEvent) → (xs : List LoggedEvent) × (through_stages caller max access us rrid xs ≡ Some after)
passed_over caller max access [] rrid after = (after, refl)
passed_over caller max access (u ∷ us) rrid after =
    stage_passed caller max u (record access { rrid = rrid }) (through_stages caller max access us) after _ refl

-- ---- commands

settle_completes : (caller : ℕ) (cs : List Command) → ((slots : List (Option OpenSlot)) → Completes (end_of_commands caller cs slots)) → (n : ℕ) (slots : List (Option OpenSlot)) (i : ℕ) (o : Option OpenSlot)
    → Completes (λ xs. after_piece (end_of_commands caller cs) (settle_piece caller (suc n) slots i o xs))
settle_completes caller cs go n slots i None = go slots
settle_completes caller cs go n slots i (Some slot) =
    let e = events.Judge slot.unit caller slot.place in
    let rest = go slots in
    (answer e ∷ rest.0, subst (λ o. IsSome (after_piece (end_of_commands caller cs) (settled slots i o))) (sym (judged_self n e rest.0)) rest.1)

until_completes : (caller : ℕ) (cs : List Command) (n : ℕ) (e : Event) (mask value : ℕ) (slots : List (Option OpenSlot))
    → Completes (λ xs. after_piece (end_of_commands caller cs) (until_piece slots (polls (suc n) e mask value xs)))
until_completes caller cs n e mask value slots =
    let rest = missed n e mask value in
    (rest.0, subst (λ o. IsSome (after_piece (end_of_commands caller cs) (until_piece slots o))) (sym rest.1) refl)

one_completes : (C : Option (LoggedEvent × List LoggedEvent) → Option SectionEnd) (e : Event) → Completes (λ xs. C (Some (pair (answer e) xs))) → Completes (λ xs. C (take_event e xs))
one_completes C e rest = (answer e ∷ rest.0, subst (λ o. IsSome (C o)) (sym (first_self e rest.0)) rest.1)

-- a submission of one event or two
submission_completes : (C : Option (LoggedEvent × List LoggedEvent) → Option SectionEnd) (unit caller : ℕ) (access : Access) → ((e : Event) → Completes (λ xs. C (Some (pair (answer e) xs)))) → (narrow : Bool) → is_narrow access ≡ narrow
    → Completes (λ xs. C (take_submission unit caller access xs))
submission_completes C unit caller access go true e =
    let s = events.Submit unit caller access in
    let a = events.Aim caller access.addr in
    let rest = go s in
    let xs = answer s ∷ rest.0 in
    let is = ap (λ (z : Bool). if z then take_event s xs else take_event_after (wide_event unit caller access) (take_event a xs)) e ∙ first_self s rest.0 in
    (xs, subst (λ o. IsSome (C o)) (sym is) rest.1)
submission_completes C unit caller access go false e =
    let s = events.Submit unit caller access in
    let a = events.Aim caller access.addr in
    let w = wide_event unit caller access in
    let rest = go w in
    let ys = answer w ∷ rest.0 in
    let xs = answer a ∷ ys in
    let is = ap (λ (z : Bool). if z then take_event s xs else take_event_after w (take_event a xs)) e ∙ (ap (λ o. take_event_after w o) (first_self a ys) ∙ first_self w rest.0) in
    (xs, subst (λ o. IsSome (C o)) (sym is) rest.1)

through_completes : (caller : ℕ) (cs : List Command) → ((slots : List (Option OpenSlot)) → Completes (end_of_commands caller cs slots)) → (max : ℕ) (access : Access) (us : List ℕ) (rrid : ℕ) (slots : List (Option OpenSlot))
    → Completes (λ xs. after_piece (end_of_commands caller cs) (through_piece slots (through_stages caller max access us rrid xs)))
through_completes caller cs go max access us rrid slots =
    let rest = go slots in
    let passed = passed_over caller max access us rrid rest.0 in
    (passed.0, subst (λ o. IsSome (after_piece (end_of_commands caller cs) (through_piece slots o))) (sym passed.1) rest.1)

pub commands_complete : (caller : ℕ) (cs : List Command) (slots : List (Option OpenSlot)) → AllByRecursion HasTries cs → Completes (end_of_commands caller cs slots)
commands_complete caller [] slots t = ([], refl)
commands_complete caller (Write unit index value ∷ cs) slots t =
    one_completes (λ o. after_piece (end_of_commands caller cs) (one_piece slots o)) (events.RegWrite unit caller index value) (commands_complete caller cs slots t.1)
commands_complete caller (Read unit index ∷ cs) slots t =
    one_completes (λ o. after_piece (end_of_commands caller cs) (one_piece slots o)) (events.RegRead unit caller index) (commands_complete caller cs slots t.1)
commands_complete caller (Submit unit access slot ∷ cs) slots t =
    submission_completes (λ o. after_piece (end_of_commands caller cs) (submit_piece slots unit o)) unit caller access (λ e. commands_complete caller cs (slots ++ None ∷ []) t.1) _ refl
commands_complete caller (Judge slot ∷ cs) slots t = settle_completes caller cs (λ ss. commands_complete caller cs ss t.1) 0 slots slot (slot_of slots slot)
commands_complete caller (Settle slot zero ∷ cs) slots t = absurd (omega (arith, t.0))
commands_complete caller (Settle slot (suc n) ∷ cs) slots t = settle_completes caller cs (λ ss. commands_complete caller cs ss t.1) n slots slot (slot_of slots slot)
commands_complete caller (Until unit index mask value zero ∷ cs) slots t = absurd (omega (arith, t.0))
commands_complete caller (Until unit index mask value (suc n) ∷ cs) slots t = until_completes caller cs n (events.RegRead unit caller index) mask value slots
commands_complete caller (Through stages access max ∷ cs) slots t =
    through_completes caller cs (λ ss. commands_complete caller cs ss t.1) max access (stage_units stages) access.rrid slots

-- ---- what is begun

and_zero : (b : Bool) → (b && nat_lt 0 0) ≡ false
and_zero true = refl
and_zero false = refl

if_chosen : {A : Type 0} (C : A → Option SectionEnd) (b c : Bool) (x y : A) → c ≡ b → IsSome (C (if b then x else y)) → IsSome (C (if c then x else y))
if_chosen C b c x y e h = subst (λ (z : Bool). IsSome (C (if z then x else y))) (sym e) h

-- after a judgement, and those that are left where it is held
judged_completes : (C : Option (Reply × List LoggedEvent) → Option SectionEnd) → ((r : Reply) → Completes (λ xs. C (Some (pair r xs)))) → (r : Reply) (h : Bool) (left : ℕ) (e : Event)
    → Completes (λ xs. C (if h && nat_lt 0 left then judgements left e xs else Some (pair r xs)))
judged_completes C go r h zero e = let rest = go r in (rest.0, if_chosen C false _ _ _ (and_zero h) rest.1)
judged_completes C go r false (suc n) e = go r
judged_completes C go r true (suc n) e =
    let rest = go replies.NoSuch in
    (answer e ∷ rest.0, if_chosen C true _ _ _ (positive n) (subst (λ o. IsSome (C o)) (sym (judged_self n e rest.0)) rest.1))

-- after a read, and those that are left where it misses
polled_completes : (caller : ℕ) (cs : List Command) (slots : List (Option OpenSlot)) → Completes (end_of_commands caller cs slots) → (hit : Bool) (left : ℕ) (e : Event) (mask value : ℕ)
    → Completes (λ xs. after_piece (end_of_commands caller cs) (until_piece slots (if not hit && nat_lt 0 left then polls left e mask value xs else Some (pair hit xs))))
polled_completes caller cs slots go true left e mask value = go
polled_completes caller cs slots go false zero e mask value = ([], refl)
polled_completes caller cs slots go false (suc n) e mask value =
    let rest = until_completes caller cs n e mask value slots in
    (rest.0, if_chosen (λ o. after_piece (end_of_commands caller cs) (until_piece slots o)) true _ _ _ (positive n) rest.1)

following_completes : (caller : ℕ) (cs : List Command) → ((slots : List (Option OpenSlot)) → Completes (end_of_commands caller cs slots)) → (slots : List (Option OpenSlot)) (chain : Chain) (o : Option ℕ)
    → Completes (λ xs. after_piece (end_of_commands caller cs) (through_piece slots (stage_following (stages_on caller chain) o xs)))
following_completes caller cs go slots chain None = go slots
following_completes caller cs go slots chain (Some rrid) = through_completes caller cs go chain.max chain.access (drop chain.stage (stage_units chain.stages)) rrid slots

submitted_completes : (caller : ℕ) (cs : List Command) → ((slots : List (Option OpenSlot)) → Completes (end_of_commands caller cs slots)) → (slots : List (Option OpenSlot)) (chain : Chain) (taken : Bool) (max : ℕ) (e : Event) → 1 ≤ max
    → Completes (λ xs. after_piece (end_of_commands caller cs) (through_piece slots (if taken then stage_judged (stages_on caller chain) (judgements max e xs) else Some xs)))
submitted_completes caller cs go slots chain false max e t = go slots
submitted_completes caller cs go slots chain true zero e t = absurd (omega arith)
submitted_completes caller cs go slots chain true (suc n) e t =
    let rest = go slots in
    (answer e ∷ rest.0, subst (λ o. IsSome (after_piece (end_of_commands caller cs) (through_piece slots (stage_judged (stages_on caller chain) o)))) (sym (judged_self n e rest.0)) rest.1)

-- after the Aim of a stage's submission
aimed_completes : (caller : ℕ) (cs : List Command) → ((slots : List (Option OpenSlot)) → Completes (end_of_commands caller cs slots)) → (slots : List (Option OpenSlot)) (chain : Chain) (unit : ℕ) (wide : Event) (aimed : Bool)
    → Completes (λ xs. after_piece (end_of_commands caller cs) (through_piece slots (if aimed then stage_piece caller chain.max unit (stages_on caller chain) (take_event wide xs) else Some xs)))
aimed_completes caller cs go slots chain unit wide false = go slots
aimed_completes caller cs go slots chain unit wide true =
    let rest = go slots in
    (answer wide ∷ rest.0, subst (λ o. IsSome (after_piece (end_of_commands caller cs) (through_piece slots (stage_piece caller chain.max unit (stages_on caller chain) o)))) (sym (first_self wide rest.0)) rest.1)

-- After an event that may stand there the record can be completed.
pub part_completes : (caller : ℕ) (cs : List Command) (slots : List (Option OpenSlot)) (event : Event) (part : Part) (x : LoggedEvent) → AllByRecursion HasTries cs → PartHasTries part
    → Completes (end_after caller cs slots event part x)
part_completes caller cs slots event Alone x t p = commands_complete caller cs slots t
part_completes caller cs slots event (Submission unit) x t p = commands_complete caller cs (slots ++ opened_slot unit x ∷ []) t
part_completes caller cs slots event (Aiming unit access) x t p =
    one_completes (λ o. after_piece (end_of_commands caller cs) (submit_piece slots unit o)) (wide_event unit caller access) (commands_complete caller cs (slots ++ None ∷ []) t)
part_completes caller cs slots event (StageAiming unit rrid chain) x t p =
    aimed_completes caller cs (λ ss. commands_complete caller cs ss t) slots chain unit (wide_event unit caller (record chain.access { rrid = rrid })) (is_aimed x.reply)
part_completes caller cs slots event (Judging slot left) x t p =
    judged_completes (λ o. after_piece (end_of_commands caller cs) (settled slots slot o)) (λ r. commands_complete caller cs (closed_by r slot slots) t) x.reply (is_held x.reply) left event
part_completes caller cs slots event (Polling mask value left) x t p =
    polled_completes caller cs slots (commands_complete caller cs slots t) (hits mask value x.reply) left event mask value
part_completes caller cs slots event (Stage unit chain) x t p =
    submitted_completes caller cs (λ ss. commands_complete caller cs ss t) slots chain (is_taken x.reply) chain.max (events.Judge unit caller x.place) p
part_completes caller cs slots event (StageJudging left chain) x t p =
    judged_completes (λ o. after_piece (end_of_commands caller cs) (through_piece slots (stage_judged (stages_on caller chain) o)))
    (λ r. following_completes caller cs (λ ss. commands_complete caller cs ss t) slots chain (next_requester r)) x.reply (is_held x.reply) left event
