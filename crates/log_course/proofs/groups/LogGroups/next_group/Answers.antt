use Rattle.std.specs.Option.{option_map}
use Rattle.std.specs.Result.{result_map_both}
use Rattle.log_groups.specs.GroupCalls.{group_value}
use Rattle.log_course.specs.Calls.{placed_value}
use Rattle.log_course.proofs.CourseLaws.{group_placed, groups_end, groups_fail}
use Rattle.log_course.proofs.groups.LogGroups.next_group.Goals as goal

pub returns-in-Ok-Some : goal.returns-in-Ok-Some
returns-in-Ok-Some c =
    group_placed c.self.inside.reached c.place_group.new.reached c.self.inside.in_use c.self.inside.groups c.next_group.new.self (group_value c.in-Ok-Some.group)
    (result_map_both (λ g. option_map placed_value g) (λ e. e) c.place_group.result) c.args.self.now c.self.view_is (rw c.in-Ok-Some.field-0-is at c.in-Ok-Some.ensures) c.place_group.ensures

pub returns-in-Ok-None : goal.returns-in-Ok-None
returns-in-Ok-None c = groups_end c.self.inside.reached c.self.inside.in_use c.self.inside.groups c.next_group.new.self c.args.self.now c.self.view_is (rw c.in-Ok-None.field-0-is at c.in-Ok-None.ensures)

pub returns-in-Err : goal.returns-in-Err
returns-in-Err c =
    groups_fail c.self.inside.reached c.self.inside.in_use c.self.inside.groups c.next_group.new.self c.in-Err.error (result_map_both (λ g. option_map placed_value g) (λ e. e) c.end_of.result) c.args.self.now c.self.view_is c.in-Err.ensures c.end_of.ensures
