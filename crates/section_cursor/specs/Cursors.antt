-- How far a caller is in its section: what is left of its record.
use Rattle.std.specs.Prelude.{◌≡◌, ℕ, ◌+◌, ◌≤◌, ◌&&◌, nat_lt, not, Bool, true, false, List, [], ◌∷◌, ◌++◌, Option, None, Some, IsSome, if◌then◌else◌, drop, count_by}
use Rattle.std.specs.List.{AllByRecursion}
use Rattle.event_words.specs.declared.event.Event.{Event}
use Rattle.event_words.specs.declared.event.Event.TheVariants as events
use Rattle.event_words.specs.declared.reply.Reply.{Reply}
use Rattle.event_words.specs.declared.record.LoggedEvent.{LoggedEvent}
use Rattle.event_words.specs.declared.record.SectionEnd.{SectionEnd}
use Rattle.event_words.specs.declared.section.Command.{Command}
use Rattle.event_words.specs.declared.section.Command.TheVariants.{Settle, Until, Through}
use Rattle.event_words.specs.Events.{same_event}
use Rattle.event_words.specs.Sections.{stage_units, is_submit}
use Rattle.event_words.specs.Records.{OpenSlot, opened_slot, judgements, polls, is_held, is_taken, is_aimed, hits, take_event, wide_event, submit_piece, settled, until_piece, stage_piece, through_stages, stage_judged, through_piece, after_piece, end_of_commands, nothing_left}
use Rattle.section_cursor.specs.declared.ahead.Chain.{Chain}
use Rattle.section_cursor.specs.declared.ahead.Part.{Part}
use Rattle.section_cursor.specs.declared.ahead.Part.TheVariants.{Alone, Submission, Aiming, Judging, Polling, StageAiming, Stage, StageJudging}
use Rattle.section_cursor.specs.declared.ahead.Ahead.{Ahead}
use Rattle.section_cursor.specs.declared.ahead.Ahead.TheVariants.{Between, Awaiting, Ended, Broken}

-- What contracts see of a cursor: its caller, the commands that are not begun, the slots, and what comes next.
pub record CursorOf : Type 0 where
  pub caller : ℕ
  pub commands : List Command
  pub slots : List (Option OpenSlot)
  pub ahead : Ahead

-- the stages that follow, after an allowed verdict
abbrev pub stages_on : ℕ → Chain → ℕ → List LoggedEvent → Option (List LoggedEvent)
stages_on caller chain = through_stages caller chain.max chain.access (drop chain.stage (stage_units chain.stages))

-- whether the awaited event is awaited again after this reply
abbrev pub is_tried_again : Part → Reply → Bool
is_tried_again (Judging slot left) reply = is_held reply && nat_lt 0 left
is_tried_again (Polling mask value left) reply = not (hits mask value reply) && nat_lt 0 left
is_tried_again (StageJudging left chain) reply = is_held reply && nat_lt 0 left
is_tried_again _ reply = false

-- whether this event is the awaited one
abbrev pub is_due : Ahead → Event → Bool
is_due (Awaiting event part) e = same_event event e
is_due _ e = false

-- whether it is awaited again after this reply
abbrev pub is_due_again : Ahead → Reply → Bool
is_due_again (Awaiting event part) reply = is_tried_again part reply
is_due_again _ reply = false

-- whether the command of the awaited event may go on after the last of its tries
abbrev pub goes_on : Ahead → Bool
goes_on (Awaiting event Alone) = false
goes_on (Awaiting event (Submission unit)) = false
goes_on (Awaiting event (Judging slot left)) = false
goes_on (Awaiting event part) = true
goes_on _ = false

-- How the record ends after the awaited event, which came as this.
abbrev pub end_after : ℕ → List Command → List (Option OpenSlot) → Event → Part → LoggedEvent → List LoggedEvent → Option SectionEnd
end_after caller cs slots event Alone x xs = end_of_commands caller cs slots xs
end_after caller cs slots event (Submission unit) x xs = end_of_commands caller cs (slots ++ opened_slot unit x ∷ []) xs
end_after caller cs slots event (Aiming unit access) x xs =
    after_piece (end_of_commands caller cs) (submit_piece slots unit (take_event (wide_event unit caller access) xs))
end_after caller cs slots event (Judging slot left) x xs =
    after_piece (end_of_commands caller cs) (settled slots slot (if is_held x.reply && nat_lt 0 left then judgements left event xs else Some (x.reply, xs)))
end_after caller cs slots event (Polling mask value left) x xs =
    after_piece (end_of_commands caller cs) (until_piece slots (if not (hits mask value x.reply) && nat_lt 0 left then polls left event mask value xs else Some (hits mask value x.reply, xs)))
end_after caller cs slots event (StageAiming unit rrid chain) x xs =
    after_piece (end_of_commands caller cs) (through_piece slots (if is_aimed x.reply then stage_piece caller chain.max unit (stages_on caller chain)
    (take_event (wide_event unit caller (record chain.access { rrid = rrid })) xs) else Some xs))
end_after caller cs slots event (Stage unit chain) x xs =
    after_piece (end_of_commands caller cs) (through_piece slots (if is_taken x.reply then stage_judged (stages_on caller chain) (judgements chain.max (events.Judge unit caller x.place) xs) else Some xs))
end_after caller cs slots event (StageJudging left chain) x xs =
    after_piece (end_of_commands caller cs) (through_piece slots (stage_judged (stages_on caller chain) (if is_held x.reply && nat_lt 0 left then judgements left event xs else Some (x.reply, xs))))

-- How the record ends that these events are the rest of.
abbrev pub end_of_rest : ℕ → List Command → List (Option OpenSlot) → Ahead → List LoggedEvent → Option SectionEnd
end_of_rest caller cs slots Between xs = end_of_commands caller cs slots xs
end_of_rest caller cs slots (Awaiting event part) [] = None
end_of_rest caller cs slots (Awaiting event part) (x ∷ xs) = if same_event event x.event then end_after caller cs slots event part x xs else None
end_of_rest caller cs slots (Ended end) xs = nothing_left end xs
end_of_rest caller cs slots Broken xs = None

abbrev pub rest_end : CursorOf → List LoggedEvent → Option SectionEnd
rest_end c xs = end_of_rest c.caller c.commands c.slots c.ahead xs

-- ---- what holds of every cursor

abbrev pub part_submits : Part → ℕ
part_submits (Submission unit) = 1
part_submits (Aiming unit access) = 1
part_submits _ = 0

abbrev pub IsSettled : Ahead → Type 0
IsSettled Between = ⊥
IsSettled _ = Unit {0}

-- the submission that comes next, if one does
abbrev pub submits : Ahead → ℕ
submits (Awaiting event part) = part_submits part
submits _ = 0

-- Something is awaited, or the section ended or is broken; and there is room for the slots of the submissions that are left.
pub record IsCursor (ahead : Ahead) (cs : List Command) (slots room : ℕ) : Type 0 where
  pub settled : IsSettled ahead
  pub fits : slots + (submits ahead + count_by is_submit cs) ≤ room

-- ---- records that can be completed

-- a command may try at least once
abbrev pub HasTries : Command → Type 0
HasTries (Settle slot max) = 1 ≤ max
HasTries (Until unit index mask value max) = 1 ≤ max
HasTries (Through stages access max) = 1 ≤ max
HasTries _ = Unit {0}

abbrev pub PartHasTries : Part → Type 0
PartHasTries (StageAiming unit rrid chain) = 1 ≤ chain.max
PartHasTries (Stage unit chain) = 1 ≤ chain.max
PartHasTries (StageJudging left chain) = 1 ≤ chain.max
PartHasTries _ = Unit {0}

abbrev pub AheadHasTries : Ahead → Type 0
AheadHasTries (Awaiting event part) = PartHasTries part
AheadHasTries _ = Unit {0}

-- What is begun and what is left may try at least once, as in every valid section.
pub record HasAllTries (c : CursorOf) : Type 0 where
  pub commands : AllByRecursion HasTries c.commands
  pub ahead : AheadHasTries c.ahead

-- ---- the event that may follow

-- This may be the next event of the record.
abbrev pub Allows : CursorOf → LoggedEvent → Type 0
Allows c x = (xs : List LoggedEvent) × IsSome (rest_end c (x ∷ xs))

-- The event is this one.
abbrev pub IsThis : Option Event → LoggedEvent → Type 0
IsThis None x = ⊥
IsThis (Some e) x = same_event e x.event ≡ true
