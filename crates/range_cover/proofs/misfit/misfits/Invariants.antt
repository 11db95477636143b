use Rattle.std.specs.Option.{option_copied}
use Rattle.range_cover.proofs.MisfitLaws.{IsFarAs, left_from}
use Rattle.range_cover.proofs.misfit.misfits.Given as goal

-- what was found so far, and the place up to which nothing is missing
abbrev pub invariant-loop-place : goal.invariant-loop-place
invariant-loop-place l = IsFarAs l.whole l.shares l.found.items (option_copied l.place)

abbrev pub decreases-loop-place : goal.decreases-loop-place
decreases-loop-place l = left_from l.shares (option_copied l.place)
