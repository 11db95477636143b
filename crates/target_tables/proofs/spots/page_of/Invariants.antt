use Rattle.std.proofs.Common.{◌-◌}
use Rattle.target_tables.specs.Pages.{IsSpan}
use Rattle.target_tables.proofs.spots.page_of.Given as goal

-- the key falls into a page from low up to high
abbrev pub invariant-loop-high : goal.invariant-loop-high
invariant-loop-high g l = IsSpan g.K.Ord.cmp l.pages l.key l.low l.high

abbrev pub decreases-loop-high : goal.decreases-loop-high
decreases-loop-high g l = l.high - l.low
