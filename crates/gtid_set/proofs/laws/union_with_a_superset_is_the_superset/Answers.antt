use Rattle.gtid_set.proofs.Within.{union-superset, within-pairs}
use Rattle.gtid_set.proofs.laws.union_with_a_superset_is_the_superset.Goals as goal

pub returns : goal.returns
returns c = record {
  behind = λ a b p q w. (union-superset a b p q w).0;
  before = λ a b p q w. (union-superset a b p q w).1;
  computed_behind = λ a b p q w. (union-superset a b p q (within-pairs a b w)).0;
  computed_before = λ a b p q w. (union-superset a b p q (within-pairs a b w)).1;
}
