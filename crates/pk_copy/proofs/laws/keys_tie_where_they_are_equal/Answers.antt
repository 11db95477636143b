use Rattle.pk_copy.proofs.TieLaws.{keys-tie}
use Rattle.pk_copy.proofs.laws.keys_tie_where_they_are_equal.Goals as goal

pub returns : goal.returns
returns c = keys-tie
