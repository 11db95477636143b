use Rattle.std.proofs.Common.{refl}
use Rattle.vrepl_words.proofs.commands.check.check_words.Goals as goal

pub returns : goal.returns
returns c = rw (c.report_form_given.ensures, c.has_flag.ensures, c.telling_given.ensures, c.in_ok-step.ensures) refl
