use Rattle.std.proofs.Common.{sym, ◌∙◌}
use Rattle.event_words.specs.Decisions.{is_covering}
use Rattle.event_words.proofs.Ranges.{filter_taken, filter_left}
use Rattle.match_rules.proofs.covering.covering_below.Goals.{then-is_covering, else-is_covering}
use Rattle.match_rules.proofs.covering.covering_below.Goals as goal

pub loop-entry-preserved : goal.loop-entry-preserved
loop-entry-preserved c =
    let p = is_covering c.args.regs.now c.args.access.now in
    let i = c.loop-entry.entry in
    let here = sym c.is_covering.ensures.value in
    elim c.if-is_covering.branch [
      | then-is_covering w ↦ rw (w.summary-is, filter_taken p i (here ∙ w.if-is_covering.true)) (w.with_entry-summary.ensures _ c.loop-entry.invariant)
      | else-is_covering w ↦ rw (w.summary-is, filter_left p i (here ∙ w.if-is_covering.false)) c.loop-entry.invariant
    ]
