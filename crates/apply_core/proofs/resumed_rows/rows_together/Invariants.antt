use Rattle.std.proofs.Common.{◌≡◌, ◌+◌, ◌++◌, length, take}
use Rattle.std.specs.Vec.Iter.{into_iter_items, into_iter_len}
use Rattle.apply_core.specs.Private.Together.{AreTogether}
use Rattle.apply_core.proofs.resumed_rows.rows_together.Given as goal

-- the first streams are put together; these and those to come are the streams, and as many
abbrev pub invariant-loop-one : goal.invariant-loop-one
invariant-loop-one l = (l.s ≡ length l.yielded) × AreTogether (take l.s l.streams) l.rows.entries × (l.yielded ++ into_iter_items l.one-iterator ≡ l.fn.saved.items) × (length l.yielded + into_iter_len l.one-iterator ≡ length l.fn.saved.items)
