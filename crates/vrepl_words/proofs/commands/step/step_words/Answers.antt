use Rattle.std.proofs.Common.{refl}
use Rattle.vrepl_words.proofs.commands.step.step_words.Goals as goal

pub returns : goal.returns
returns c = rw (c.feed_form_given.ensures, c.text.ensures, c.in_ok-feeds.ensures) refl
