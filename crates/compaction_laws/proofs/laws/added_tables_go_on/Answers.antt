use Rattle.compaction_laws.proofs.AddedLaws.{added_go_on}
use Rattle.compaction_laws.proofs.laws.added_tables_go_on.Goals as goal

pub returns : goal.returns
returns c = added_go_on c.saved_boards_are_said_of_more.ensures c.extended_boards_are_resumed.ensures c.boards_go_on.ensures
