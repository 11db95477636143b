use Rattle.std.proofs.Common.{◌≤◌, take, vec_len}
use Rattle.target_tables.specs.Private.Runs.{MergesOn}
use Rattle.target_tables.proofs.runs.put_run.Given as goal

abbrev pub invariant-loop-rest : goal.invariant-loop-rest
invariant-loop-rest g l = record {
  left : l.rest ≤ vec_len l.changes;
  fewer : l.rest ≤ l.left;
  merges : MergesOn g.K.Ord.cmp l.stream l.page l.fn.list l.fn.above (take l.left l.fn.changes.items) l.list l.above (take l.rest l.changes.items);
}

abbrev pub decreases-loop-rest : goal.decreases-loop-rest
decreases-loop-rest g l = l.rest
