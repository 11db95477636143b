use Rattle.std.proofs.Common.{◌≡◌, ◌-◌, ◌≤◌, map, take}
use Rattle.stream_worker.specs.Outlines.{outline_of}
use Rattle.stream_worker.proofs.outline.outlines_of.Given as goal

-- the outlines of the first s streams
abbrev pub invariant-loop-s : goal.invariant-loop-s
invariant-loop-s l = (l.s ≤ l.n) × (l.outlines.items ≡ map outline_of (take l.s l.board.streams))

abbrev pub decreases-loop-s : goal.decreases-loop-s
decreases-loop-s l = l.n - l.s
