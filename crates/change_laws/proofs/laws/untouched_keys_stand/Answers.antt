use Rattle.change_laws.proofs.GoingOn.{untouched-stands}
use Rattle.change_laws.proofs.laws.untouched_keys_stand.Goals as goal

pub returns : goal.returns
returns c = λ old new key lawful still gone untouched. untouched-stands old new key gone untouched lawful still
