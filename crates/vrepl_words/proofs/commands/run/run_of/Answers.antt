use Rattle.std.proofs.Common.{refl}
use Rattle.vrepl_words.proofs.commands.run.run_of.Goals as goal

pub returns : goal.returns
returns c = rw (c.feed_form_given.ensures, c.threading_given.ensures, c.telling_given.ensures, c.in_ok-until.ensures, c.text.ensures, c.in_ok-feeds.ensures) refl
