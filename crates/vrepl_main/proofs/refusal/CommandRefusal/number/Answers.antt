use Rattle.std.proofs.Common.{rules}
use Rattle.vrepl_main.proofs.refusal.CommandRefusal.number.Goals as goal

pub returns-in-BadHex : goal.returns-in-BadHex
returns-in-BadHex c = search rules

pub returns-in-BadScript : goal.returns-in-BadScript
returns-in-BadScript c = search rules

pub returns-in-Changed : goal.returns-in-Changed
returns-in-Changed c = search rules

pub returns-in-CannotRead : goal.returns-in-CannotRead
returns-in-CannotRead c = search rules

pub returns-in-CannotWrite : goal.returns-in-CannotWrite
returns-in-CannotWrite c = search rules

pub returns-in-Feed : goal.returns-in-Feed
returns-in-Feed c = search rules

pub returns-in-Memory : goal.returns-in-Memory
returns-in-Memory c = search rules

pub returns-in-Workflow : goal.returns-in-Workflow
returns-in-Workflow c = search rules

pub returns-in-NoStream : goal.returns-in-NoStream
returns-in-NoStream c = search rules

pub returns-in-NotReached : goal.returns-in-NotReached
returns-in-NotReached c = search rules

pub returns-in-FeedCount : goal.returns-in-FeedCount
returns-in-FeedCount c = search rules
