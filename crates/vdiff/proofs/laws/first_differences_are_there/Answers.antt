use Rattle.vdiff.proofs.DifferenceLaws.{some_first}
use Rattle.vdiff.proofs.laws.first_differences_are_there.Goals as goal

pub returns : goal.returns
returns c = some_first (λ a b. (c.keys_tie_where_they_are_equal.ensures a b).0) _ _ _ c.as_slice-source.ensures.rising c.as_slice-target.ensures.rising
