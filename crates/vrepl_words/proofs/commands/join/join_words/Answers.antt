use Rattle.std.proofs.Common.{refl}
use Rattle.vrepl_words.proofs.commands.join.join_words.Goals as goal

pub returns : goal.returns
returns c = rw (c.feed_form_given.ensures, c.text.ensures, c.text-2.ensures, c.text-3.ensures, c.in_ok-more.ensures, c.text_if.ensures, c.telling_given.ensures, c.in_ok-feeds.ensures) refl
