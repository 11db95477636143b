use Rattle.std.proofs.Common.{sym}
use Rattle.std.proofs.lemmas.List.{get_or_past}
use Rattle.pk_copy.proofs.front.padded_at.Goals as goal

pub returns-then-place-text : goal.returns-then-place-text
returns-then-place-text c = sym (get_or_past c.args.text.now c.args.place 0 c.if-place-text.true)
