use Rattle.feed_check.proofs.UnknownLaws.{pushed_told}
use Rattle.feed_check.proofs.unknown.push_name.Goals as goal

pub returns-in_ok-push-clause-seen : goal.returns-in_ok-push-clause-seen
returns-in_ok-push-clause-seen c = λ has. pushed_told c.args.seen.now.keys c.insert.new.self.keys c.args.name c.args.told.now.items c.push.new.self.items c.in_ok-push.ensures.items c.in_ok-is_new.ensures.updates.0 has
