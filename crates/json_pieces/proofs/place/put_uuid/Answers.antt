use Rattle.json_pieces.proofs.TellLaws.{same_text, then_tells}
use Rattle.json_pieces.proofs.TextLaws.{uuid-other}
use Rattle.json_pieces.proofs.place.put_uuid.Goals as goal

pub returns-then-uuid-interval : goal.returns-then-uuid-interval
returns-then-uuid-interval g c =
    same_text _ _ _ _ (uuid-other c.args.before c.in-Some.uuid c.args.interval.now c.in-Some.is c.if-uuid-interval.true)
    (then_tells _ _ _ _ _ c.put_escaped-then-uuid-interval.ensures (rw c.uuid_text-then-uuid-interval.ensures at c.put_escaped-then-uuid-interval-2.ensures))
