use Rattle.std.proofs.Common.{rules}
use Rattle.stream_core.proofs.refusal.CoreRefusal.number.Goals as goal

pub returns-in-NothingRead : goal.returns-in-NothingRead
returns-in-NothingRead c = search rules
