use Rattle.std.proofs.Common.{◌≡◌, ◌++◌, drop}
use Rattle.feed_check.specs.Findings.{moves_of}
use Rattle.feed_check.proofs.moves.push_all.Given as goal

-- those so far, and those of the changes that are left, are the whole
abbrev pub invariant-loop-change : goal.invariant-loop-change
invariant-loop-change l = l.moves.items ++ moves_of (drop l.change-index l.changes) ≡ l.fn.moves.items ++ moves_of l.changes
