use Rattle.std.proofs.Common.{rules, ◌≡◌, take}
use Rattle.source_feed.specs.Pieces.{IsLongestWhole}
use Rattle.source_feed.proofs.pieces.FeedBuilder.whole.Goals as goal

pub returns-clause-messages : goal.returns-clause-messages
returns-clause-messages c =
    let bytes : c.deref.result.now ≡ c.args.self.now = search rules in
    let front : IsLongestWhole c.args.self.now (take c.self.inside.end c.deref.result.now) = search rules in
    (c.whole_is_said_by_the_bytes.ensures c.args.self.now).counted (take c.self.inside.end c.deref.result.now) front
