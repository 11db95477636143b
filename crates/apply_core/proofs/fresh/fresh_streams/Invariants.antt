use Rattle.std.proofs.Common.{◌≡◌, map}
use Rattle.std.specs.Arc.{arc_value}
use Rattle.board_laws.specs.Lawful.{start_of}
use Rattle.apply_core.proofs.fresh.fresh_streams.Given as goal

-- the streams so far are the starts of the plans so far
abbrev pub invariant-loop-plan : goal.invariant-loop-plan
invariant-loop-plan l = l.streams.items ≡ map start_of (map arc_value l.yielded)
