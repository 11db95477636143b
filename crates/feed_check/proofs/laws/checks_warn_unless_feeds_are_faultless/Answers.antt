use Rattle.feed_check.proofs.CleanFeeds.{tells_unless_clean, warns_unless_faultless}
use Rattle.feed_check.proofs.laws.checks_warn_unless_feeds_are_faultless.Goals as goal

pub returns-clause-faultless : goal.returns-clause-faultless
returns-clause-faultless c = warns_unless_faultless (λ a b. (c.keys_tie_where_they_are_equal.ensures a b).0)

pub returns-clause-clean : goal.returns-clause-clean
returns-clause-clean c = tells_unless_clean (λ a b. (c.keys_tie_where_they_are_equal.ensures a b).0)
