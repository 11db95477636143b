use Rattle.gtid_set.proofs.Within.{within_itself, within_both_ways}
use Rattle.gtid_set.proofs.laws.subset_is_an_order.Goals as goal

pub returns : goal.returns
returns c = record {
  itself = λ a. within_itself a;
  transitive = λ a b d p q u n h. q u n (p u n h);
  both_ways = λ a b p q v w. within_both_ways a b p q v w;
}
