use Rattle.std.proofs.Common.{reverse}
use Rattle.feed_check.proofs.FindingLaws.{none_where_true}
use Rattle.feed_check.proofs.laws.nothing_is_found_where_all_are_true.Goals as goal

pub returns : goal.returns
returns c = λ changes. none_where_true (reverse changes)
