use Rattle.dump.proofs.StandLaws.{read_once}
use Rattle.dump.proofs.reading.texts_are_read_once.Goals as goal

pub returns : goal.returns
returns c = read_once
