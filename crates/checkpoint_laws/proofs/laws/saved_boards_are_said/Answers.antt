use Rattle.checkpoint_laws.proofs.SaidLaws.{saved_boards}
use Rattle.checkpoint_laws.proofs.laws.saved_boards_are_said.Goals as goal

pub returns : goal.returns
returns c = saved_boards c.keys_are_those_of_kept_columns.ensures (λ a b. (c.keys_tie_where_they_are_equal.ensures a b).0) c.stream_parts_are_read_again.ensures c.printed_text_reads_back.ensures.with_flavor
