use Rattle.des.proofs.KeyHalves.{null_round_key}
use Rattle.des.proofs.laws.null_key_has_null_round_keys.Goals as goal

pub returns : goal.returns
returns c = null_round_key
