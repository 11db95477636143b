use Rattle.std.proofs.Common.{refl}
use Rattle.vrepl_words.proofs.commands.transcribe.transcribe_words.Goals as goal

pub returns : goal.returns
returns c = rw (c.text_if.ensures, c.text_if-2.ensures, c.text.ensures, c.text_if-3.ensures, c.text-2.ensures, c.in_ok-logs.ensures) refl
