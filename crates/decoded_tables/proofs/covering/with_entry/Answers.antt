use Rattle.std.proofs.Common.{◌+◌, true, false, arith, sym, ap, ◌∙◌}
use Rattle.event_words.specs.Decisions.{is_covering, by_covering}
use Rattle.decoded_tables.proofs.Refusals.{allowed_at}
use Rattle.event_words.proofs.Ranges.{filter_taken, filter_left}
use Rattle.decoded_tables.proofs.Walks.{covering_here}
use Rattle.decoded_tables.proofs.covering.with_entry.Goals as goal

pub returns-then-not-covers-clause-value : goal.returns-then-not-covers-clause-value
returns-then-not-covers-clause-value g c =
    let r = c.args.regs.now in
    let a = c.args.access.now in
    let i = c.args.entry in
    let here = covering_here c.args.decoded.now r a c.args.domain i c.covers.result false c.requires.stands c.requires.inside (omega arith) c.requires.owner c.requires.own c.covers.ensures.value (search arith) in
    c.requires.before ∙ ap (by_covering r a) (sym (filter_left (is_covering r a) i here))

pub returns-then-entry_grants-clause-value : goal.returns-then-entry_grants-clause-value
returns-then-entry_grants-clause-value g c =
    let r = c.args.regs.now in
    let a = c.args.access.now in
    let i = c.args.entry in
    let here = covering_here c.args.decoded.now r a c.args.domain i c.covers.result true c.requires.stands c.requires.inside (omega arith) c.requires.owner c.requires.own c.covers.ensures.value (search arith) in
    sym (allowed_at r a i (i + 1) (omega arith) here (sym c.entry_grants.ensures ∙ c.if-entry_grants.true))

pub returns-else-entry_grants-clause-value : goal.returns-else-entry_grants-clause-value
returns-else-entry_grants-clause-value g c =
    let r = c.args.regs.now in
    let a = c.args.access.now in
    let i = c.args.entry in
    let here = covering_here c.args.decoded.now r a c.args.domain i c.covers.result true c.requires.stands c.requires.inside (omega arith) c.requires.owner c.requires.own c.covers.ensures.value (search arith) in
    c.with_refusal.ensures _ c.requires.before ∙ ap (by_covering r a) (sym (filter_taken (is_covering r a) i here))
