use Rattle.json_pieces.proofs.TellLaws.{same_text, then_tells}
use Rattle.json_pieces.proofs.TextLaws.{last-apart}
use Rattle.json_pieces.proofs.place.put_last.Goals as goal

pub returns-then-first-last : goal.returns-then-first-last
returns-then-first-last g c = same_text _ _ _ _ (last-apart c.args.first c.args.last c.if-first-last.true) (then_tells _ _ _ _ _ c.put_escaped.ensures c.put_digits.ensures)
