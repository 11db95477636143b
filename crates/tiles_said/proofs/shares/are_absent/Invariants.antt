use Rattle.std.proofs.Common.{◌≡◌, drop}
use Rattle.tiles_said.specs.Cover.{are_absent}
use Rattle.tiles_said.proofs.shares.are_absent.Given as goal

-- all are so if those that are left are
abbrev pub invariant-loop-passing : goal.invariant-loop-passing
invariant-loop-passing l = are_absent (drop l.passing-index l.passings) ≡ are_absent l.passings
