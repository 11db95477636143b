use Rattle.std.proofs.Common.{◌≡◌, map, take}
use Rattle.feed_check.specs.Report.{of_kind}
use Rattle.feed_check.proofs.warnings.of_kind.Given as goal

-- the findings so far are those of this kind
abbrev pub invariant-loop-found : goal.invariant-loop-found
invariant-loop-found l = map (λ found. found.now) l.these.items ≡ of_kind l.why (take l.found-index l.findings)
