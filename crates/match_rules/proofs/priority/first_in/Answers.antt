use Rattle.std.proofs.Common.{◌-◌, find, sym, ◌∙◌}
use Rattle.std.specs.List.{range_with_len}
use Rattle.event_words.specs.Decisions.{is_touching}
use Rattle.mdcfg_formats.proofs.Searches.{find_here, find_later}
use Rattle.match_rules.proofs.priority.first_in.Goals as goal

pub returns-then-is_touching-clause-value : goal.returns-then-is_touching-clause-value
returns-then-is_touching-clause-value c =
    let p = is_touching c.args.regs.now c.args.access.now in
    find_here p c.loop-entry.entry c.args.to (find p (range_with_len c.args.from (c.args.to - c.args.from))) c.loop-entry-test.true c.loop-entry.invariant (sym c.is_touching.ensures.value ∙ c.if-is_touching.true)

pub loop-entry-preserved : goal.loop-entry-preserved
loop-entry-preserved c =
    let p = is_touching c.args.regs.now c.args.access.now in
    find_later p c.loop-entry.entry c.args.to (find p (range_with_len c.args.from (c.args.to - c.args.from))) c.loop-entry-test.true c.loop-entry.invariant (sym c.is_touching.ensures.value ∙ c.if-is_touching.false)
