use Rattle.std.proofs.Common.{◌≡◌, drop}
use Rattle.std.specs.List.{list_all}
use Rattle.tiles_said.specs.Cover.{are_alike, like_all}
use Rattle.tiles_said.proofs.shares.are_alike.Given as goal

-- all are so if those that are left are
abbrev pub invariant-loop-passing : goal.invariant-loop-passing
invariant-loop-passing l = list_all (like_all l.passings) (drop l.passing-index l.passings) ≡ are_alike l.passings
