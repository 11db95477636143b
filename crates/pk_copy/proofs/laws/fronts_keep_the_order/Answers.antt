use Rattle.pk_copy.proofs.FrontLaws.{fronts_keep}
use Rattle.pk_copy.proofs.laws.fronts_keep_the_order.Goals as goal

pub returns : goal.returns
returns c = fronts_keep
