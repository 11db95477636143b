use Rattle.apply_core.proofs.GrowingLaws.{longer-grown}
use Rattle.apply_core.proofs.run_laws.longer_feeds_have_grown.Goals as goal

pub returns : goal.returns
returns c = longer-grown
