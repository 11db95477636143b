use Rattle.std.proofs.Common.{◌≡◌, ◌++◌, drop}
use Rattle.tiles_said.specs.Cover.{shares_from}
use Rattle.tiles_said.proofs.shares.shares_of.Given as goal

-- those so far and those of the files that are left are all
abbrev pub invariant-loop-i : goal.invariant-loop-i
invariant-loop-i l = l.shares.items ++ shares_from l.i (drop l.i l.passings) ≡ shares_from 0 l.passings
