use Rattle.std.proofs.Common.{length}
use Rattle.row_view.specs.Private.Counted.{IsRead}
use Rattle.row_view.proofs.found.found_in.Given as goal

abbrev pub invariant-loop-rest : goal.invariant-loop-rest
invariant-loop-rest l = IsRead l.bytes l.rest l.values l.count l.marks

abbrev pub decreases-loop-rest : goal.decreases-loop-rest
decreases-loop-rest l = length l.rest
