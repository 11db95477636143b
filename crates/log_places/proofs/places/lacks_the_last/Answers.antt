use Rattle.log_places.proofs.NextLaws.{lacks-the-last}
use Rattle.log_places.proofs.places.lacks_the_last.Goals as goal

pub returns-then-any_reaches : goal.returns-then-any_reaches
returns-then-any_reaches c =
    lacks-the-last c.args.reached.now c.intervals.result.now c.args.added.now c.to_be_bytes.result c.any_reaches.result c.contains.result c.requires c.intervals.ensures.value c.intervals.ensures.canonical c.any_reaches.ensures c.if-any_reaches.true
    c.to_be_bytes.ensures c.contains.ensures
