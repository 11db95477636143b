use Rattle.std.proofs.Common.{refl}
use Rattle.vrepl_words.proofs.commands.show.show_words.Goals as goal

pub returns : goal.returns
returns c = rw (c.feed_form_given.ensures, c.report_form_given.ensures, c.text.ensures, c.text-2.ensures, c.text-3.ensures) refl
