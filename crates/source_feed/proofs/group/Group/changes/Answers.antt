use Rattle.std.proofs.Common.{rules}
use Rattle.source_feed.proofs.group.Group.changes.Goals as goal

pub returns : goal.returns
returns c = search rules
