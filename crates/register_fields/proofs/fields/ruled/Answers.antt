use Rattle.std.proofs.lemmas.Nat.{or_lt}
use Rattle.register_fields.proofs.fields.ruled.Goals as goal

pub returns-in-SetOnly-clause-small : goal.returns-in-SetOnly-clause-small
returns-in-SetOnly-clause-small c = λ width old new. or_lt width _ _ old new
