use Rattle.std.proofs.Common.{refl}
use Rattle.vrepl_words.proofs.commands.compact.compact_of.Goals as goal

pub returns : goal.returns
returns c = rw (c.feed_form_given.ensures, c.text_if.ensures, c.text_if-2.ensures, c.has_flag.ensures, c.telling_given.ensures, c.text.ensures, c.text-2.ensures, c.in_ok-checkpoints.ensures) refl
