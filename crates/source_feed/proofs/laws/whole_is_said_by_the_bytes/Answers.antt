use Rattle.source_feed.proofs.PiecesLaws.{whole_by_bytes}
use Rattle.source_feed.proofs.laws.whole_is_said_by_the_bytes.Goals as goal

pub returns : goal.returns
returns c bytes = whole_by_bytes bytes
