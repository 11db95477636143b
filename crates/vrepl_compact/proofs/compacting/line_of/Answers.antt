use Rattle.std.proofs.Common.{length}
use Rattle.std.specs.String.{string_bytes}
use Rattle.source_feed.specs.Touches.{group_at}
use Rattle.vrepl_compact.proofs.LimitLaws.{told_ok}
use Rattle.vrepl_compact.proofs.compacting.line_of.Goals as goal

pub returns-in-Some : goal.returns-in-Some
returns-in-Some c =
    told_ok string_bytes (group_at c.args.feed.now c.args.made.now.groups) c.in-Some.position.now c.args.made.now.groups c.args.made.now.rows (length c.args.bytes.now) (length c.args.made.now.feed) c.told.result c.in-Some.ensures (rw c.size.ensures at c.told.ensures)
