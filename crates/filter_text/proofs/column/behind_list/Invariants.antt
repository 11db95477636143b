use Rattle.std.proofs.Common.{length}
use Rattle.filter_text.proofs.ListLaws.{HasListed}
use Rattle.filter_text.proofs.column.behind_list.Given as goal

-- the columns so far and those that are left are the text's
abbrev pub invariant-loop-column : goal.invariant-loop-column
invariant-loop-column l = HasListed l.fn.text l.left

abbrev pub decreases-loop-column : goal.decreases-loop-column
decreases-loop-column l = length l.left
