use Rattle.board_laws.proofs.AddedBoards.{extended-lawful, extended-reads, cuts-stay}
use Rattle.board_laws.proofs.added_laws.extended_boards_are_lawful.Goals as goal

pub returns-clause-lawful : goal.returns-clause-lawful
returns-clause-lawful c = extended-lawful (λ a b. (c.keys_tie_where_they_are_equal.ensures a b).0)

pub returns-clause-reads : goal.returns-clause-reads
returns-clause-reads c = extended-reads

pub returns-clause-cuts : goal.returns-clause-cuts
returns-clause-cuts c = cuts-stay (λ a b. (c.keys_tie_where_they_are_equal.ensures a b).0)
