use Rattle.std.proofs.Common.{rules}
use Rattle.source_feed.proofs.group_reader.end_block.Goals as goal

pub returns-then-is_within-clause-block : goal.returns-then-is_within-clause-block
returns-then-is_within-clause-block c = search rules

pub returns-then-not-is_within-clause-block : goal.returns-then-not-is_within-clause-block
returns-then-not-is_within-clause-block c = search rules

pub returns-clause-block : goal.returns-clause-block
returns-clause-block c = search rules
