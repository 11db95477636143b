use Rattle.feed_check.proofs.RowLaws.{rows_after}
use Rattle.feed_check.proofs.keyed_rows.KeyedRows.touch.Goals as goal

pub returns-in-Ok : goal.returns-in-Ok
returns-in-Ok g c = rows_after c.self.inside.rows.entries c.apply.new.self.entries c.args.touches.items c.args.self.now c.self.view_is c.self.invariant c.in-Ok.ensures.values
