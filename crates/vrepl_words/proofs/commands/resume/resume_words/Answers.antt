use Rattle.std.proofs.Common.{refl}
use Rattle.vrepl_words.proofs.commands.resume.resume_words.Goals as goal

pub returns : goal.returns
returns c = rw (c.text.ensures, c.telling_given.ensures, c.in_ok-step.ensures) refl
