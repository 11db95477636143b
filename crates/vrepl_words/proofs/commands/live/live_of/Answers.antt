use Rattle.std.proofs.Common.{refl}
use Rattle.vrepl_words.proofs.commands.live.live_of.Goals as goal

pub returns : goal.returns
returns c = rw (c.threading_given.ensures, c.text_if.ensures, c.text_if-2.ensures, c.text.ensures, c.in_ok-feeds.ensures) refl
