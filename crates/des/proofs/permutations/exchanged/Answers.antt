use Rattle.std.proofs.Common.{refl}
use Rattle.des.specs.Private.Exchange.{exchanged}
use Rattle.des.proofs.permutations.exchanged.Goals as goal

pub returns : goal.returns
unfolding exchanged
returns c = refl
