use Rattle.std.proofs.Common.{map, ap}
use Rattle.std.specs.Option.{option_map}
use Rattle.log_groups.specs.GroupCalls.{group_value, waiting_value}
use Rattle.log_groups.proofs.WaitingLaws.{next_found, next_refused}
use Rattle.log_groups.proofs.group.Groups.next_group.Goals as goal

pub returns-in-Ok : goal.returns-in-Ok
returns-in-Ok c =
    next_found c.self.inside.failed (map waiting_value c.self.inside.waiting.items) (map waiting_value c.next_of.new.waiting.items) c.self.inside.transactions.reading c.next_of.new.transactions.reading c.args.self.now.groups
    (option_map group_value c.in-Ok.found) c.in_default.is (ap (λ v. v.groups) c.self.view_is) c.in-Ok.ensures

pub returns-in-Err : goal.returns-in-Err
returns-in-Err c =
    next_refused c.self.inside.failed c.fault-self-inside.result (map waiting_value c.self.inside.waiting.items) (map waiting_value c.next_of.new.waiting.items) c.self.inside.transactions.reading c.next_of.new.transactions.reading c.args.self.now.groups
    c.in-Err.error c.in_default.is (ap (λ v. v.groups) c.self.view_is) c.fault-self-inside.ensures c.in-Err.ensures
