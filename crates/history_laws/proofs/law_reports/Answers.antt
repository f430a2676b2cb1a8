use Rattle.history_laws.proofs.EqualReportsLaw.{law_reports}
use Rattle.history_laws.proofs.law_reports.Goals as goal

-- src/lib.rt:7:1
pub returns : goal.returns
returns c = law_reports
