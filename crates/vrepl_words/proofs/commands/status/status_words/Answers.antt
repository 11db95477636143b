use Rattle.std.proofs.Common.{List, ap₂}
use Rattle.clap.specs.Words.{Text}
use Rattle.vrepl_choices.specs.declared.report_form.ReportForm.{ReportForm}
use Rattle.vrepl_words.specs.commands.Status.{StatusValue}
use Rattle.vrepl_words.proofs.commands.status.status_words.Goals as goal

stands : ReportForm → List Text → StatusValue
stands form checkpoints = record { report_form = form; checkpoints = checkpoints }

pub returns : goal.returns
unfolding stands
returns c = ap₂ stands c.report_form_given.ensures c.in_ok-checkpoints.ensures
