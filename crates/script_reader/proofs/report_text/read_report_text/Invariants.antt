-- The lines that are left, after those so far, give what all of them give.
use Rattle.std.proofs.Common.{◌≡◌, ◌≤◌, ◌+◌, ◌-◌, take, drop, length}
use Rattle.script_reader.specs.ReportTexts.{fed_lines, report_text_from, report_text_at}
use Rattle.script_reader.proofs.report_text.read_report_text.Given as goal

abbrev pub invariant-loop-start : goal.invariant-loop-start
invariant-loop-start l = record {
  parts : report_text_from (take l.start l.bytes) l.number (fed_lines (drop l.start l.bytes)) ≡ report_text_at l.bytes;
  within : l.start ≤ length l.bytes;
  few : l.number ≤ l.start + 1;
}

abbrev pub decreases-loop-start : goal.decreases-loop-start
decreases-loop-start l = length l.bytes - l.start
