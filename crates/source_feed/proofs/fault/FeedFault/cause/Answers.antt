use Rattle.std.proofs.Common.{rules}
use Rattle.source_feed.proofs.fault.FeedFault.cause.Goals as goal

pub returns-in-BadPosition : goal.returns-in-BadPosition
returns-in-BadPosition c = search rules
