use Rattle.std.proofs.Common.{◌≡◌, ◌-◌, find}
use Rattle.std.specs.List.{range_with_len}
use Rattle.event_words.specs.Decisions.{is_touching}
use Rattle.match_rules.proofs.priority.first_in.Given as goal

-- what is left to search gives the answer
abbrev pub invariant-loop-entry : goal.invariant-loop-entry
invariant-loop-entry l =
    find (is_touching l.regs l.access) (range_with_len l.entry (l.to - l.entry)) ≡ find (is_touching l.regs l.access) (range_with_len l.from (l.to - l.from))
