-- The reads of a poll begin with the first try.
use Rattle.std.proofs.Common.{refl}
use Rattle.event_words.specs.Records.{after_piece, end_of_commands, polls, until_piece}
use Rattle.section_cursor.specs.declared.ahead.Part.TheVariants.{Polling}
use Rattle.section_cursor.specs.Cursors.{end_of_rest}
use Rattle.section_cursor.proofs.Beginnings.{first_of_tries, polling_next}
use Rattle.section_cursor.proofs.beginning.until.Goals as goal

pub returns-clause-rest : goal.returns-clause-rest
returns-clause-rest c = λ cs slots xs.
    let event = c.read_event.result in
    rw (← c.read_event.ensures) (first_of_tries (λ ahead. end_of_rest c.args.caller cs slots ahead xs) (λ n. after_piece (end_of_commands c.args.caller cs) (until_piece slots (polls n event c.args.mask c.args.value xs)))
    (Polling c.args.mask c.args.value) event c.args.tries c.saturating_sub-left.result c.first_try.result
    c.first_try.ensures.none c.first_try.ensures.first c.saturating_sub-left.ensures refl (λ n. polling_next c.args.caller cs slots event c.args.mask c.args.value n xs))
