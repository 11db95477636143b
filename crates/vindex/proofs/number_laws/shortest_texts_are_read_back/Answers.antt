use Rattle.vindex.proofs.NumberTextLaws.{reads_back}
use Rattle.vindex.proofs.number_laws.shortest_texts_are_read_back.Goals as goal

pub returns : goal.returns
returns c = reads_back
