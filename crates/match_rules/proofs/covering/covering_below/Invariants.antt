use Rattle.std.proofs.Common.{filter}
use Rattle.std.specs.List.{range_with_len}
use Rattle.event_words.specs.Decisions.{is_covering}
use Rattle.match_rules.specs.Summaries.{IsSummary}
use Rattle.match_rules.proofs.covering.covering_below.Given as goal

abbrev pub invariant-loop-entry : goal.invariant-loop-entry
invariant-loop-entry l =
    IsSummary l.regs l.access (filter (is_covering l.regs l.access) (range_with_len 0 l.entry)) l.summary
