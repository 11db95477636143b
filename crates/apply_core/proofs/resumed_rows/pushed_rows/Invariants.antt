use Rattle.std.proofs.Common.{◌≡◌, ◌++◌, map}
use Rattle.std.specs.Vec.Iter.{into_iter_items}
use Rattle.apply_core.specs.Private.Together.{of_first}
use Rattle.apply_core.proofs.resumed_rows.pushed_rows.Given as goal

-- the rows so far, in their order; these and those to come are the rows
abbrev pub invariant-loop-key : goal.invariant-loop-key
invariant-loop-key l = (l.pushed.entries ≡ map of_first l.yielded) × (l.yielded ++ into_iter_items l.key-iterator ≡ l.fn.rows.items)
