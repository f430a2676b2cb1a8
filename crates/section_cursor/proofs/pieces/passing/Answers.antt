-- A chain without further units is passed, and else its next unit's stage comes.
use Rattle.std.proofs.Common.{arith, sym, ◌∙◌}
use Rattle.section_cursor.proofs.Beginnings.{passing_none, passing_first}
use Rattle.section_cursor.proofs.pieces.passing.Goals as goal

pub returns-in_default-clause-rest : goal.returns-in_default-clause-rest
returns-in_default-clause-rest c = λ cs slots xs. passing_none c.args.caller cs slots c.args.chain c.args.rrid xs (sym c.in_default.ensures.unit)

pub returns-clause-rest : goal.returns-clause-rest
returns-clause-rest c = λ cs slots xs. c.stage.ensures.rest cs slots xs ∙ passing_first c.args.caller cs slots c.in-Some.unit c.args.chain _ c.args.rrid xs (sym c.in-Some.ensures.unit) (omega arith)
