use Rattle.filter_rule.specs.PlanTable.{name_of_table}
use Rattle.check_said.specs.Json.{key_data}
use Rattle.check_said.proofs.JsonLaws.{shared-text}
use Rattle.check_said.proofs.streams.shared_pieces.Goals as goal

pub returns : goal.returns
returns c =
    let shared = c.args.shared.now in
    rw (c.one.ensures, c.other.ensures, c.name_of_table.ensures, c.table.ensures, c.key.ensures, c.requires) (shared-text (key_data shared.key) shared.one shared.other (name_of_table c.args.tables.now shared.key.table))
