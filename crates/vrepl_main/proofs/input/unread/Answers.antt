use Rattle.std.proofs.Common.{rules}
use Rattle.vrepl_main.proofs.input.unread.Goals as goal

pub returns-in-CannotRead : goal.returns-in-CannotRead
returns-in-CannotRead c = search rules

pub returns-in-Memory : goal.returns-in-Memory
returns-in-Memory c = search rules
