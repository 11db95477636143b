use Rattle.std.proofs.Common.{◌≡◌, map, take}
use Rattle.feed_check.specs.Private.Owners.{touched_by}
use Rattle.feed_check.proofs.shared.touched_by.Given as goal

-- the touches so far
abbrev pub invariant-loop-touch : goal.invariant-loop-touch
invariant-loop-touch l = l.put.items ≡ map (touched_by l.i) (take l.touch-index l.touches)
