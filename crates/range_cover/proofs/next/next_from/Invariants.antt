use Rattle.std.proofs.Common.{◌≡◌, drop}
use Rattle.std.specs.Option.{option_copied}
use Rattle.range_cover.specs.Private.Next.{next_from}
use Rattle.range_cover.proofs.next.next_from.Given as goal

-- from the best so far on, the ranges that are left lead to the same as all
abbrev pub invariant-loop-share : goal.invariant-loop-share
invariant-loop-share l = next_from l.id (drop l.share-index l.shares) (option_copied l.best) ≡ next_from l.id l.shares (option_copied l.known)
