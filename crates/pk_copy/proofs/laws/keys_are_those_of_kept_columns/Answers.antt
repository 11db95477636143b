use Rattle.pk_copy.proofs.KeptLaws.{keys_kept}
use Rattle.pk_copy.proofs.laws.keys_are_those_of_kept_columns.Goals as goal

pub returns : goal.returns
returns c = keys_kept
