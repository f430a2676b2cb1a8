-- The text stands at the front of what is unread, or does not.
use Rattle.std.proofs.Common.{sym, ◌∙◌, take, length}
use Rattle.audit_reader.proofs.Prefixes.{front_of, after_front, other, same}
use Rattle.audit_reader.proofs.unread.Unread.take.Goals as goal

pub returns-then-ne-clause-no : goal.returns-then-ne-clause-no
returns-then-ne-clause-no c = λ rest e.
    let bytes = c.self.inside.bytes.now in
    let text = c.args.text.now in
    absurd (other c.ne.result (take (length text) bytes) text c.ne.ensures c.if-ne.true (front_of bytes text rest (c.self.view_is ∙ e)))

pub returns-clause-yes : goal.returns-clause-yes
returns-clause-yes c = λ t.
    let bytes = c.self.inside.bytes.now in
    let text = c.args.text.now in
    sym c.self.view_is ∙ after_front bytes text (same c.ne.result (take (length text) bytes) text c.ne.ensures c.if-ne.false)
