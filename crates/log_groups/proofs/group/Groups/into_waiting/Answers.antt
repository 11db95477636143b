use Rattle.std.proofs.Common.{map, ap}
use Rattle.log_groups.specs.GroupCalls.{waiting_value}
use Rattle.log_groups.proofs.WaitingLaws.{waits_there}
use Rattle.log_groups.proofs.group.Groups.into_waiting.Goals as goal

pub returns : goal.returns
returns c = λ none. waits_there c.self.inside.failed (map waiting_value c.self.inside.waiting.items) c.self.inside.transactions.reading c.args.self.groups (ap (λ v. v.groups) c.self.view_is) none
