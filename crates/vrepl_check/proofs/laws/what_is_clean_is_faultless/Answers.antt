use Rattle.vrepl_check.proofs.CleanLaws.{clean_faultless}
use Rattle.vrepl_check.proofs.laws.what_is_clean_is_faultless.Goals as goal

pub returns : goal.returns
returns c = clean_faultless
