use Rattle.std.proofs.Common.{refl}
use Rattle.vrepl_words.proofs.commands.follow.follow_of.Goals as goal

pub returns : goal.returns
returns c = rw (c.in_ok-run.ensures, c.has_flag.ensures, c.in_ok-only.ensures, c.text_if.ensures, c.text.ensures) refl
