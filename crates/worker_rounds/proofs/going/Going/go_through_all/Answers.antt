use Rattle.std.proofs.Common.{◌+◌, ℕ, List, length, ap, subst, arith}
use Rattle.source_feed.specs.Planned.{FeedValue}
use Rattle.worker_rounds.specs.Private.OnRound.{AreThrough}
use Rattle.worker_rounds.proofs.RoundsEnd.{through-more}
use Rattle.worker_rounds.proofs.going.Going.go_through_all.Goals as goal

pub loop-s-init : goal.loop-s-init
loop-s-init g c = λ s less. absurd (omega (arith, less))

pub overflow_cast-s : goal.overflow_cast-s
overflow_cast-s g c = omega (arith, c.loop-s-test.true, c.is_on_round.ensures.begun.lawful.few, c.is_on_round.ensures.begun.count, ap (λ (xs : List FeedValue). length xs) c.requires.feeds)

pub loop-s-preserved : goal.loop-s-preserved
loop-s-preserved g c = through-more g.J.Began.fed g.J.Began.most c.loop-s.self c.go_through.new.self c.loop-s.s (c.loop-s.s + 1) (omega arith) c.go_through.ensures.aside c.go_through.ensures.through c.loop-s.invariant

pub returns : goal.returns
returns g c =
    subst (λ (n : ℕ). AreThrough g.J.Began.fed g.J.Began.most c.loop-s.self n) (omega (arith, c.loop-s-test.false, c.loop-s.auto.s-end, ap (λ (xs : List FeedValue). length xs) c.requires.feeds)) c.loop-s.invariant
