use Rattle.std.proofs.Common.{Some, refl}
use Rattle.std.specs.Arc.{arc_value}
use Rattle.source_feed.proofs.EndLaws.{begun}
use Rattle.source_feed.proofs.feed_end.FeedEnd.begin.Goals as goal

pub returns-clause-groups : goal.returns-clause-groups
returns-clause-groups c =
    begun (arc_value c.args.plan.now) c.in_ok-feed.feed (record { tables = c.new.result; length = 0 }) c.in_ok-feed.ensures refl
    c.new.ensures.order c.new.ensures.widths (c.new.ensures.numbers (Some (arc_value c.args.plan.now)))
