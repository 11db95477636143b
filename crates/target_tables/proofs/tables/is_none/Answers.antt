use Rattle.std.proofs.Common.{◌∙◌}
use Rattle.target_tables.proofs.Rooms.{none_same}
use Rattle.target_tables.proofs.tables.is_none.Goals as goal

pub returns : goal.returns
returns g c = c.is_empty.ensures ∙ none_same c.args.pages.now c.requires
