use Rattle.tiles_said.proofs.SaidLaws.{quiet}
use Rattle.tiles_said.proofs.laws.quiet_tiles_have_each_id_once.Goals as goal

pub returns : goal.returns
returns c = quiet
