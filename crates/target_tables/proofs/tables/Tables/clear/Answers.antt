use Rattle.std.proofs.Common.{rules}
use Rattle.target_tables.proofs.tables.Tables.clear.Goals as goal

pub returns : goal.returns
returns g c = search rules
