use Rattle.std.proofs.Common.{◌≡◌, ◌-◌, ◌<◌, rules, arith}
use Rattle.std.specs.Prelude.{slice_get}
use Rattle.source_feed.specs.Touches.{group_at}
use Rattle.source_feed.proofs.PreparedLaws.{group_at-place}
use Rattle.source_feed.proofs.feed.Feed.group.Goals as goal

pub returns : goal.returns
returns c =
    let from_one : 0 < c.args.number = omega arith in
    let at : group_at c.args.self.now c.args.number ≡ slice_get c.args.self.now.groups (c.args.number - 1) = group_at-place c.args.self.now c.args.number from_one in
    rw at (search rules)
