use Rattle.gtid_set.proofs.Same.{same-equal, equal-same}
use Rattle.gtid_set.proofs.laws.same_set_is_equality.Goals as goal

pub returns : goal.returns
returns c = λ a b. (λ e. same-equal a b e, λ e. equal-same a b e)
