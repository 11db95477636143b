use borrow.Author.Tests.{lt-ltb}
use Rattle.board_laws.proofs.Fresh.{chunk-left, all-taken}
use Rattle.board_laws.proofs.laws.chunks_are_of_the_rows_left.Goals as goal

pub returns-clause-left : goal.returns-clause-left
returns-clause-left c state n copying = chunk-left state n (lt-ltb state.marks.done state.marks.tables copying)

pub returns-clause-one_more : goal.returns-clause-one_more
returns-clause-one_more c = all-taken
