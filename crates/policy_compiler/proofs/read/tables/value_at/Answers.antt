-- A look-up in the map is a look-up in the data that it stands for.
use Rattle.toml.proofs.Views.{table_get}
use Rattle.policy_compiler.proofs.read.tables.value_at.Goals as goal

pub returns : goal.returns
returns c = table_get c.get.result c.args.key.now c.args.table.now.entries c.get.ensures.value
