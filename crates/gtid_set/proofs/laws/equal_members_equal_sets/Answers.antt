use Rattle.gtid_set.proofs.Same.{equal_sets}
use Rattle.gtid_set.proofs.laws.equal_members_equal_sets.Goals as goal

pub returns : goal.returns
returns c = λ a b p q same. equal_sets a b p q same
