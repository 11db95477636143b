use Rattle.std.proofs.Common.{List, subst, sym, ◌++◌, reverse}
use Rattle.feed_check.specs.KeyedChanges.{KeyedChangeValue}
use Rattle.feed_check.specs.Private.Replayed.{IsReplayed}
use Rattle.feed_check.proofs.ReplayLaws.{past-pushed}
use Rattle.feed_check.proofs.before_images.take_all.Goals as goal

pub loop-change-preserved : goal.loop-change-preserved
loop-change-preserved c = λ earlier h.
    subst (λ (past : List KeyedChangeValue). IsReplayed past c.take.new.self.rows c.take.new.self.findings.items)
    (sym (past-pushed earlier c.loop-change.yielded c.in-Some.change))
    (c.in_ok-take.ensures (reverse (earlier ++ c.loop-change.yielded)) (c.loop-change.invariant earlier h))
