use Rattle.std.proofs.Common.{◌≡◌, drop}
use Rattle.std.specs.List.{list_all}
use Rattle.tiles_said.specs.Cover.{is_like_passing, like_all}
use Rattle.tiles_said.proofs.shares.like_all.Given as goal

-- all are so if those that are left are
abbrev pub invariant-loop-other : goal.invariant-loop-other
invariant-loop-other l = list_all (is_like_passing l.passing) (drop l.other-index l.passings) ≡ like_all l.passings l.passing
