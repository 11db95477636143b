use Rattle.std.proofs.Common.{refl}
use Rattle.vrepl_words.proofs.commands.save.save_words.Goals as goal

pub returns : goal.returns
returns c = rw (c.text_if.ensures, c.has_flag.ensures, c.in_ok-step.ensures) refl
