-- A cursor that goes on awaits valid events only.
use Rattle.std.proofs.Common.{sym, subst}
use Rattle.section_cursor.specs.ValidEvents.{HasValidEvents}
use Rattle.section_cursor.proofs.cursor.Cursor.note.Goals as goal

pub returns-else-not-due_again-clause-valid : goal.returns-else-not-due_again-clause-valid
returns-else-not-due_again-clause-valid c = λ small v.
    let old = subst HasValidEvents (sym c.self.view_is) v in
    record { caller = old.caller; commands = old.commands; slots = old.slots; ahead = c.due_again.ensures.valid c.self.inside.caller old.ahead }
