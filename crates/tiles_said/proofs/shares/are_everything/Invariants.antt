use Rattle.std.proofs.Common.{◌≡◌, drop}
use Rattle.tiles_said.specs.Cover.{are_everything}
use Rattle.tiles_said.proofs.shares.are_everything.Given as goal

-- all are so if those that are left are
abbrev pub invariant-loop-passing : goal.invariant-loop-passing
invariant-loop-passing l = are_everything (drop l.passing-index l.passings) ≡ are_everything l.passings
