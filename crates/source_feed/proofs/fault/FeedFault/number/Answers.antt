use Rattle.std.proofs.Common.{rules}
use Rattle.source_feed.proofs.fault.FeedFault.number.Goals as goal

pub returns-in-OpenAtEnd : goal.returns-in-OpenAtEnd
returns-in-OpenAtEnd c = search rules
