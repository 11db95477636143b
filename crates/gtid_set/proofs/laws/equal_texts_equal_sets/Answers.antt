use Rattle.gtid_set.proofs.ReadSet.{printed-differ}
use Rattle.gtid_set.proofs.laws.equal_texts_equal_sets.Goals as goal

pub returns : goal.returns
returns c = λ a b p q e. printed-differ a b p q e
