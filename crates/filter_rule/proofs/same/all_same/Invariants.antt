use Rattle.std.proofs.Common.{◌≡◌, take}
use Rattle.filter_rule.proofs.same.all_same.Given as goal

-- the lists agree so far
abbrev pub invariant-loop-i : goal.invariant-loop-i
invariant-loop-i g l = take l.i l.left ≡ take l.i l.right
