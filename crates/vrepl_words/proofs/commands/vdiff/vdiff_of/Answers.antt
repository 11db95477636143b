use Rattle.std.proofs.Common.{refl}
use Rattle.vrepl_words.proofs.commands.vdiff.vdiff_of.Goals as goal

pub returns : goal.returns
returns c = rw (c.has_flag.ensures, c.report_form_given.ensures, c.has_flag-2.ensures, c.text_if.ensures, c.telling_given.ensures, c.text.ensures, c.text-2.ensures, c.text-3.ensures) refl
