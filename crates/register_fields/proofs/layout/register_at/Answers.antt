use Rattle.std.proofs.Common.{◌≡◌, Some, None, Option, rules}
use Rattle.event_words.specs.declared.register.Register.{Register}
use Rattle.event_words.specs.Registers.{register_at}
use Rattle.register_fields.proofs.Places.{found_exactly}
use Rattle.register_fields.proofs.layout.register_at.Goals as goal

pub returns-then-has_register-clause-exact : goal.returns-then-has_register-clause-exact
returns-then-has_register-clause-exact c =
    let e : Some c.in_ok-register.register ≡ register_at c.args.shape.now c.args.index = search rules in
    found_exactly c.args.shape.now c.args.index (Some c.in_ok-register.register) e

pub returns-else-has_register-clause-exact : goal.returns-else-has_register-clause-exact
returns-else-has_register-clause-exact c =
    let o : Option Register = None in
    let e : o ≡ register_at c.args.shape.now c.args.index = search rules in
    found_exactly c.args.shape.now c.args.index o e
