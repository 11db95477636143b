use Rattle.board_laws.proofs.AddedBoards.{bare, to-copy}
use Rattle.board_laws.proofs.added_laws.added_tables_are_to_copy.Goals as goal

pub returns-clause-bare : goal.returns-clause-bare
returns-clause-bare c = bare

pub returns-clause-copying : goal.returns-clause-copying
returns-clause-copying c = to-copy
