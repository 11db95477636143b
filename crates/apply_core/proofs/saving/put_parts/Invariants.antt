use Rattle.std.proofs.Common.{◌≡◌, ◌++◌, drop}
use Rattle.checkpoint_laws.specs.Written.{written_parts}
use Rattle.apply_core.specs.Private.Saving.{parts_from}
use Rattle.apply_core.proofs.saving.put_parts.Given as goal

-- what is written, and the parts of the streams that are still to come, is all
abbrev pub invariant-loop-s : goal.invariant-loop-s
invariant-loop-s l = l.out.items ++ written_parts (parts_from l.s (drop l.s l.streams) l.rows.entries) ≡ l.fn.out.items ++ written_parts (parts_from 0 l.streams l.rows.entries)
