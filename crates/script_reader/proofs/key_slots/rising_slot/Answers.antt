-- What a search doesn't find, and what is above the last key, has no slot.
use Rattle.std.proofs.Common.{sym, ◌∙◌}
use Rattle.script_reader.proofs.KeySlots.{above_absent, search_found, search_absent}
use Rattle.script_reader.proofs.key_slots.rising_slot.Goals as goal

pub returns-then-is_above : goal.returns-then-is_above
returns-then-is_above c = sym (above_absent c.args.keys.now c.args.key c.requires.rise (sym c.is_above.ensures ∙ c.if-is_above.true))

pub returns-in-Ok : goal.returns-in-Ok
returns-in-Ok c = sym (search_found c.args.keys.now c.args.key c.in-Ok.slot c.requires.rise c.in-Ok.ensures.position)

pub returns-in-Err : goal.returns-in-Err
returns-in-Err c = sym (search_absent c.args.keys.now c.args.key c.in-Err.field-0 c.requires.rise c.in-Err.ensures.position)
