-- The reader takes a printed lane as the lane.
use Rattle.std.proofs.Common.{sym, subst}
use Rattle.script_reader.specs.Canonical.{AddsLane}
use Rattle.script_reader.proofs.WrittenScripts.{lane_reads_back}
use Rattle.script_reader.proofs.print.print_lane.Goals as goal

pub returns-in-Ok-clause-read : goal.returns-in-Ok-clause-read
returns-in-Ok-clause-read c = subst (AddsLane c.args.number c.args.section.now) (sym c.in-Ok.ensures) (lane_reads_back c.args.number c.args.section.now)
