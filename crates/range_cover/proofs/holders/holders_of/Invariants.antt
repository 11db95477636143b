use Rattle.std.proofs.Common.{◌≡◌, ◌++◌, drop}
use Rattle.range_cover.specs.Cover.{holders_of}
use Rattle.range_cover.proofs.holders.holders_of.Given as goal

-- those that were met and those of the ranges that are left are all
abbrev pub invariant-loop-share : goal.invariant-loop-share
invariant-loop-share l = l.holders.items ++ holders_of (drop l.share-index l.shares) l.id ≡ holders_of l.shares l.id
