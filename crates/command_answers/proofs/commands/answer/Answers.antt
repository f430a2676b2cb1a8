-- The command says which of them answers.
use Rattle.std.proofs.Common.{sym, subst}
use Rattle.command_answers.specs.CommandTables.{Answers}
use Rattle.command_answers.proofs.commands.answer.Goals as goal

pub returns-in-Gen : goal.returns-in-Gen
returns-in-Gen g c = subst (λ x. Answers x c.args.bytes.now c.gen_answer.result) (sym c.in-Gen.is) (c.gen_answer.ensures c.args.bytes.now)

pub returns-in-Soak : goal.returns-in-Soak
returns-in-Soak g c = subst (λ x. Answers x c.args.bytes.now c.soak_answer.result) (sym c.in-Soak.is) (c.soak_answer.ensures c.args.bytes.now)
