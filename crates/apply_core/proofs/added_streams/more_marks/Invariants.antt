use Rattle.std.proofs.Common.{◌≡◌, None}
use Rattle.apply_core.proofs.added_streams.more_marks.Given as goal

-- so many tables are done
abbrev pub invariant-loop-t : goal.invariant-loop-t
invariant-loop-t l = l.more ≡ record { tables = l.tables; done = l._t; upto = None }
