use Rattle.std.proofs.Common.{sym, subst}
use Rattle.policy_compiler.specs.Laws.{DecidesAs}
use Rattle.policy_compiler.proofs.Alike.{decides_as}
use Rattle.policy_compiler.proofs.image.lawful_image.Goals as goal

pub returns-clause-law : goal.returns-clause-law
returns-clause-law c = subst (DecidesAs c.args.policy.now) (sym c.in_ok-image.ensures) (decides_as c.args.policy.now c.requires.policy c.requires.domains c.requires.entries)
