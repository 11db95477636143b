use Rattle.std.proofs.Common.{rules}
use Rattle.source_feed.proofs.chunk.entries_past.Goals as goal

pub returns-clause-entries : goal.returns-clause-entries
returns-clause-entries c = search rules
