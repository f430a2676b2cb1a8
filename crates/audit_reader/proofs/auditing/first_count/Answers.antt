-- The first line counts the events, or no count within the need stands there.
use Rattle.std.proofs.Common.{◌≡◌, sym, ap, ◌∙◌, ◌∷◌}
use Rattle.std.proofs.lemmas.Option.{none-some, same_Some}
use Rattle.std.specs.List.{concat}
use Rattle.event_words.specs.ReportLines.{count_line}
use Rattle.audit_reader.proofs.LinesOfReports.{count_is_line}
use Rattle.audit_reader.proofs.WholeLines.{begins_with, line_taken, line_begins}
use Rattle.audit_reader.proofs.auditing.first_count.Goals as goal

pub returns-in_default-clause-none : goal.returns-in_default-clause-none
returns-in_default-clause-none c = λ n rest l e.
    none-some n (sym c.in_default.is ∙ c.count_in.ensures.count n (concat rest) l (c.bytes.ensures ∙ begins_with c.args.unread.now (count_line n) rest e))

pub returns-then-not-take-clause-none : goal.returns-then-not-take-clause-none
returns-then-not-take-clause-none c = λ n rest l e.
    let count = c.in-Some.count in
    let same : count ≡ n = same_Some count n (sym c.in-Some.is ∙ c.count_in.ensures.count n (concat rest) l (c.bytes.ensures ∙ begins_with c.args.unread.now (count_line n) rest e)) in
    let first = e ∙ ap (λ k. count_line k ∷ rest) (sym same) in
    let t = c.take.ensures.no (concat rest) (line_begins c.args.unread.now c.bytes-2.result.now (count_line count) rest (c.bytes-2.ensures ∙ c.make_count.ensures) first) in
    let f = c.if-not-take.true in
    cc

pub returns-clause-some : goal.returns-clause-some
returns-clause-some c =
    let count = c.in-Some.count in
    (c.in-Some.ensures.few, line_taken c.args.unread.now c.bytes-2.result.now c.take.new.self (count_line count) (c.bytes-2.ensures ∙ c.make_count.ensures) (count_is_line count) (c.take.ensures.yes c.if-not-take.false))
