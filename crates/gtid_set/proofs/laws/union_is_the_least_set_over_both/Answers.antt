use Rattle.gtid_set.proofs.Within.{canonical-union, union-pairs, within-union, union-within}
use Rattle.gtid_set.proofs.laws.union_is_the_least_set_over_both.Goals as goal

pub returns : goal.returns
returns c = record {
  canonical = λ a b p q. canonical-union a b p q;
  pairs = λ a b p q. union-pairs a b p q;
  holds_one = λ a b p q. (within-union a b p q).0;
  holds_other = λ a b p q. (within-union a b p q).1;
  least = λ a b all p q v w. union-within a b all p q v w;
}
