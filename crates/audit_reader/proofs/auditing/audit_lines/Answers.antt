-- Which of the lines after the events is the first bad one, or that the report is legal.
use Rattle.audit_reader.proofs.Prefixes.{is_left, none_is_left}
use Rattle.audit_reader.proofs.LastAnswers.{end_found, unit_found, last_found, more_found, none_found}
use Rattle.audit_reader.proofs.auditing.audit_lines.Goals as goal

pub returns-in-Some-first_bad_end : goal.returns-in-Some-first_bad_end
returns-in-Some-first_bad_end c = λ script bytes most begun.
    end_found script bytes c.args.count c.first_bad_event.new.units.state c.first_bad_event.new.cursors c.first_bad_event.new.unread most c.first_bad_event.result c.in_default.is (c.first_bad_event.ensures.answer script bytes most begun)
    c.first_bad_end.new.unread c.first_bad_end.result c.in-Some-first_bad_end.number c.in-Some-first_bad_end.is c.first_bad_end.ensures.come

pub returns-in-Some-first_bad_unit : goal.returns-in-Some-first_bad_unit
returns-in-Some-first_bad_unit c = λ script bytes most begun.
    unit_found script bytes c.args.count c.first_bad_event.new.units.state c.first_bad_event.new.cursors c.first_bad_event.new.unread most c.first_bad_event.result c.in_default.is (c.first_bad_event.ensures.answer script bytes most begun)
    c.first_bad_end.new.unread c.first_bad_end.result c.in_default-first_bad_end.is c.first_bad_end.ensures.come
    c.first_bad_unit.new.unread c.first_bad_unit.result c.in-Some-first_bad_unit.number c.in-Some-first_bad_unit.is c.first_bad_unit.ensures.come

pub returns-then-not-last_is_next : goal.returns-then-not-last_is_next
returns-then-not-last_is_next c = λ script bytes most begun.
    last_found script bytes c.args.count c.first_bad_event.new.units.state c.first_bad_event.new.cursors c.first_bad_event.new.unread most c.first_bad_event.result c.in_default.is (c.first_bad_event.ensures.answer script bytes most begun)
    c.first_bad_end.new.unread c.first_bad_end.result c.in_default-first_bad_end.is c.first_bad_end.ensures.come
    c.first_bad_unit.new.unread c.first_bad_unit.result c.in_default-first_bad_unit.is c.first_bad_unit.ensures.come c.units.result c.units.ensures
    c.last_is_next.result c.if-not-last_is_next.true c.last_is_next.ensures.no

pub returns-then-not-is_empty : goal.returns-then-not-is_empty
returns-then-not-is_empty c = λ script bytes most begun.
    let fourth = c.last_is_next.new.unread in
    let more = is_left c.bytes.result.now fourth c.is_empty.result c.is_empty.ensures c.if-not-is_empty.true c.bytes.ensures in
    more_found script bytes c.args.count c.first_bad_event.new.units.state c.first_bad_event.new.cursors c.first_bad_event.new.unread most c.first_bad_event.result c.in_default.is (c.first_bad_event.ensures.answer script bytes most begun)
    c.first_bad_end.new.unread c.first_bad_end.result c.in_default-first_bad_end.is c.first_bad_end.ensures.come
    c.first_bad_unit.new.unread c.first_bad_unit.result c.in_default-first_bad_unit.is c.first_bad_unit.ensures.come c.units.result c.units.ensures
    fourth (c.last_is_next.ensures.yes c.if-not-last_is_next.false) more

pub returns : goal.returns
returns c = λ script bytes most begun.
    let fourth = c.last_is_next.new.unread in
    let none = none_is_left c.bytes.result.now fourth c.is_empty.result c.is_empty.ensures c.if-not-is_empty.false c.bytes.ensures in
    none_found script bytes c.args.count c.first_bad_event.new.units.state c.first_bad_event.new.cursors c.first_bad_event.new.unread most c.first_bad_event.result c.in_default.is (c.first_bad_event.ensures.answer script bytes most begun)
    c.first_bad_end.new.unread c.first_bad_end.result c.in_default-first_bad_end.is c.first_bad_end.ensures.come
    c.first_bad_unit.new.unread c.first_bad_unit.result c.in_default-first_bad_unit.is c.first_bad_unit.ensures.come c.units.result c.units.ensures
    fourth (c.last_is_next.ensures.yes c.if-not-last_is_next.false) none
