use Rattle.std.proofs.Common.{◌≡◌, map, take}
use Rattle.board_laws.specs.Meaning.{State}
use Rattle.worker_rounds.proofs.round.applied_by.Given as goal

-- of the streams so far
abbrev pub invariant-loop-s : goal.invariant-loop-s
invariant-loop-s l = l.applied.items ≡ map (λ (state : State). state.applied) (take l.s l.board.streams)
