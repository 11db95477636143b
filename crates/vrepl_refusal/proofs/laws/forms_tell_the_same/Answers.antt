use Rattle.vrepl_refusal.proofs.FormLaws.{forms_tell}
use Rattle.vrepl_refusal.proofs.laws.forms_tell_the_same.Goals as goal

pub returns : goal.returns
returns c = forms_tell
