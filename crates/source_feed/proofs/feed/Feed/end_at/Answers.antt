use Rattle.std.specs.Arc.{arc_value}
use Rattle.source_feed.specs.Planned.{FeedValue}
use Rattle.source_feed.proofs.BeginningLaws.{beginning_is_feed}
use Rattle.source_feed.proofs.feed.Feed.end_at.Goals as goal

pub invariant_of-self : goal.invariant_of-self
invariant_of-self c =
    let old : FeedValue = record { plan = arc_value c.self.inside.plan; groups = c.self.inside.groups.items } in
    rw c.truncate.ensures.items (beginning_is_feed old c.args.number c.self.invariant)
