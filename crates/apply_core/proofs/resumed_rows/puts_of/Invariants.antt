use Rattle.std.proofs.Common.{◌≡◌, map}
use Rattle.apply_core.specs.Private.Changes.{put_row}
use Rattle.apply_core.proofs.resumed_rows.puts_of.Given as goal

-- the puts so far are those of the rows so far
abbrev pub invariant-loop-key : goal.invariant-loop-key
invariant-loop-key l = l.puts.items ≡ map put_row l.yielded
