use Rattle.feed_check.specs.Shared.{histories_of}
use Rattle.feed_check.proofs.SharedLaws.{told}
use Rattle.feed_check.proofs.laws.the_least_key_of_two_feeds_is_told.Goals as goal

pub returns : goal.returns
returns c = λ checks. told (λ a b. (c.keys_tie_where_they_are_equal.ensures a b).0) (histories_of checks)
