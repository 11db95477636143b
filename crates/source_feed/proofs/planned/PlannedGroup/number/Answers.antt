use Rattle.std.proofs.Common.{rules}
use Rattle.source_feed.proofs.planned.PlannedGroup.number.Goals as goal

pub returns : goal.returns
returns c = search rules
