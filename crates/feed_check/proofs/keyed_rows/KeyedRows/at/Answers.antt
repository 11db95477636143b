use Rattle.std.specs.Option.{option_copied}
use Rattle.feed_check.proofs.RowLaws.{row_found}
use Rattle.feed_check.proofs.keyed_rows.KeyedRows.at.Goals as goal

pub returns : goal.returns
returns g c = row_found c.self.inside.rows.entries c.args.self.now c.args.key.now (option_copied c.row_at.result) c.self.view_is c.row_at.ensures
