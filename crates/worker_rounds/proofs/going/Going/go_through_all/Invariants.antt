use Rattle.worker_rounds.specs.Private.OnRound.{AreThrough}
use Rattle.worker_rounds.proofs.going.Going.go_through_all.Given as goal

-- the first streams are through
abbrev pub invariant-loop-s : goal.invariant-loop-s
invariant-loop-s g l = AreThrough g.J.Began.fed g.J.Began.most l.self l.s
