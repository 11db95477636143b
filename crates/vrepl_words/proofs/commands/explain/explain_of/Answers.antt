use Rattle.std.proofs.Common.{refl}
use Rattle.vrepl_words.proofs.commands.explain.explain_of.Goals as goal

pub returns : goal.returns
returns c = rw c.report_form_given.ensures refl
