use Rattle.compaction_laws.proofs.FeedLaws.{compacted_feed}
use Rattle.compaction_laws.proofs.laws.feeds_stay_what_they_were.Goals as goal

pub returns : goal.returns
returns c = compacted_feed (λ a b. (c.keys_tie_where_they_are_equal.ensures a b).0) c.feeds_are_compacted.ensures
