use Rattle.std.proofs.Common.{rules}
use Rattle.target_tables.proofs.fault.TableFault.number.Goals as goal

pub returns-in-OwnedByOther : goal.returns-in-OwnedByOther
returns-in-OwnedByOther g c = search rules
