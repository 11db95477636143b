use Rattle.feed_check.proofs.RowLaws.{same_rows}
use Rattle.feed_check.proofs.replay.same_rows.Goals as goal

pub returns : goal.returns
returns c = same_rows c.args.row.now c.args.other.now c.same.result c.same.ensures
