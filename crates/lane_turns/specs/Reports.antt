-- How it is written what became of the turns of a run.
use Rattle.std.specs.Prelude.{ℕ, ◌++◌, ◌==◌, Bool, List, [], if◌then◌else◌, codes}
use Rattle.std.specs.Fmt.{decimal}
use Rattle.lane_turns.specs.declared.report.TurnReport.{TurnReport}

-- no lane went on out of the order of turns
abbrev pub is_reproducible : TurnReport → Bool
is_reproducible r = r.strays == 0

abbrev pub counts_text : TurnReport → List ℕ → List ℕ
counts_text r end =
    codes "seed " ++ (decimal r.seed ++ (codes " turns " ++ (decimal r.turns ++ (codes " losses " ++ (decimal r.losses ++ end)))))

abbrev pub report_text : TurnReport → List ℕ
report_text r = if is_reproducible r then counts_text r (codes " reproducible") else counts_text r []
