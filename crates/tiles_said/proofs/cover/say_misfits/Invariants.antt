use Rattle.std.proofs.Common.{◌≡◌, drop, map}
use Rattle.tiles_said.specs.Private.Saying.{with_misfits}
use Rattle.tiles_said.proofs.cover.say_misfits.Given as goal

-- with the lines of those that are left all is said
abbrev pub invariant-loop-misfit : goal.invariant-loop-misfit
invariant-loop-misfit l = with_misfits (map (λ name. name.now) l.names) l.source l.table (drop l.misfit-index l.found) l.said ≡ with_misfits (map (λ name. name.now) l.names) l.source l.table l.found l.fn.said
