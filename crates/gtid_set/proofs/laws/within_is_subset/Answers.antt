use Rattle.gtid_set.proofs.Joined.{canonical-intervals}
use Rattle.gtid_set.proofs.Within.{within-pairs, pairs-within}
use Rattle.gtid_set.proofs.laws.within_is_subset.Goals as goal

pub returns : goal.returns
returns c = λ a b p q. (λ e. within-pairs a b e, λ w. pairs-within a b (canonical-intervals a p) q w)
