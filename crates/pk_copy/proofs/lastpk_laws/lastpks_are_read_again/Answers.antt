use Rattle.pk_copy.proofs.LastpkLaws.{lastpks_again}
use Rattle.pk_copy.proofs.lastpk_laws.lastpks_are_read_again.Goals as goal

pub returns : goal.returns
returns c = lastpks_again c.shortest_texts_are_read_back.ensures
