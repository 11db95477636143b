use Rattle.compaction_laws.proofs.PortionLaws.{portions_are}
use Rattle.compaction_laws.proofs.laws.portions_are_a_base.Goals as goal

pub returns : goal.returns
returns c = portions_are
