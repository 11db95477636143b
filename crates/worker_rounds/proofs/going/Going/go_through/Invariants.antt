use Rattle.worker_rounds.specs.Private.OnRound.{IsOnRound, AreAsideOf, Gains}
use Rattle.worker_rounds.proofs.going.Going.go_through.Given as goal

-- a group in each turn so far
abbrev pub invariant-loop-done : goal.invariant-loop-done
invariant-loop-done g l =
    IsOnRound g.J.Began.fed g.J.Began.most l.self × AreAsideOf l.s l.initial.self l.self × Gains l.s l._done g.J.Began.fed.board l.self.board
