-- The judgements of a slot begin with the first try, and are valid events.
use Rattle.std.proofs.Common.{refl, sym, subst}
use Rattle.event_words.specs.Records.{after_piece, end_of_commands, judgements, settled}
use Rattle.event_words.specs.Valid.{IsValidEvent}
use Rattle.section_cursor.specs.declared.ahead.Part.TheVariants.{Judging}
use Rattle.section_cursor.specs.Cursors.{end_of_rest}
use Rattle.section_cursor.specs.ValidEvents.{IsValidSlot}
use Rattle.section_cursor.proofs.Validity.{slot_valid}
use Rattle.section_cursor.proofs.Beginnings.{first_of_tries, judging_next}
use Rattle.section_cursor.proofs.beginning.settle.Goals as goal

pub returns-clause-rest : goal.returns-clause-rest
returns-clause-rest c = λ cs xs.
    let event = c.judgement.result in
    let slots = c.args.slots.now in
    rw (← c.in-Some.ensures, ← c.judgement.ensures) (first_of_tries (λ ahead. end_of_rest c.args.caller cs slots ahead xs) (λ n. after_piece (end_of_commands c.args.caller cs) (settled slots c.args.slot (judgements n event xs)))
    (Judging c.args.slot) event c.args.tries c.saturating_sub-left.result c.first_try.result
    c.first_try.ensures.none c.first_try.ensures.first c.saturating_sub-left.ensures refl (λ n. judging_next c.args.caller cs slots c.args.slot event n xs))

pub returns-clause-valid : goal.returns-clause-valid
returns-clause-valid c = λ small valid.
    let slot = subst IsValidSlot (sym c.in-Some.ensures) (slot_valid c.args.slots.now c.args.slot valid) in
    let judgement = subst IsValidEvent (sym c.judgement.ensures) (record { unit_below = slot.0; caller_below = small }, slot.1) in
    c.first_try.ensures.valid c.args.caller (rw c.judgement.ensures refl) judgement tt
