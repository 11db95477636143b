use Rattle.std.proofs.Common.{◌≡◌, ◌++◌, ◌+◌, drop, map}
use Rattle.check_said.specs.Items.{streams_items}
use Rattle.check_said.proofs.items.push_streams.Given as goal

-- what is told so far, and that of the streams that are left, are the whole
abbrev pub invariant-loop-i : goal.invariant-loop-i
invariant-loop-i l = l.told.items ++ streams_items l.i (drop l.i l.checks) ≡ l.fn.told.items ++ streams_items 0 l.checks
