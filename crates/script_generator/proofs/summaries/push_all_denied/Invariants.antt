-- What is written and the lines of the codes that are left are the lines of all of them.
use Rattle.std.proofs.Common.{◌≡◌, ◌-◌, ◌≤◌, ◌++◌, flat_map}
use Rattle.std.specs.List.{range_with_len}
use Rattle.std.specs.String.{string_bytes}
use Rattle.script_generator.specs.Summaries.{denied_line, denied_lines}
use Rattle.script_generator.proofs.summaries.push_all_denied.Given as goal

abbrev pub invariant-loop-code : goal.invariant-loop-code
invariant-loop-code l =
    (string_bytes l.out ++ flat_map (denied_line l.codes) (range_with_len l.code (8 - l.code)) ≡ string_bytes l.fn.out ++ denied_lines l.codes) × (l.code ≤ 8)
