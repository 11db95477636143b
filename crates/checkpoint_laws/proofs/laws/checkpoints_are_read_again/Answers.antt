use Rattle.checkpoint_laws.proofs.PartLaws.{checkpoints_read_again}
use Rattle.checkpoint_laws.proofs.laws.checkpoints_are_read_again.Goals as goal

pub returns : goal.returns
returns c = checkpoints_read_again c.stream_parts_are_read_again.ensures
