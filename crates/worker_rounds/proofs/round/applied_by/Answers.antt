use Rattle.std.proofs.Common.{ℕ, ◌∷◌, [], ◌++◌, ap, ◌∙◌}
use Rattle.worker_rounds.proofs.StreamsOnRounds.{applied-more}
use Rattle.worker_rounds.proofs.round.applied_by.Goals as goal

pub loop-s-preserved : goal.loop-s-preserved
loop-s-preserved c =
    applied-more c.args.board.now.streams c.loop-s.s c.in-Ok.at c.loop-s.applied.items c.push.new.self.items c.in-Ok.ensures.state
    (c.in_ok-push.ensures.items ∙ ap (λ (n : ℕ). c.loop-s.applied.items ++ n ∷ []) c.applied.ensures) c.loop-s.invariant
