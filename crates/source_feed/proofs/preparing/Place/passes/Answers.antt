use Rattle.std.proofs.Common.{rules}
use Rattle.source_feed.proofs.preparing.Place.passes.Goals as goal

pub returns-in-Ok : goal.returns-in-Ok
returns-in-Ok c = search rules
