use Rattle.std.proofs.Common.{ap, ◌∙◌}
use Rattle.log_course.proofs.CourseLaws.{none_left}
use Rattle.log_course.proofs.groups.LogGroups.into_waiting.Goals as goal

pub returns : goal.returns
returns c = λ none faultless. c.into_waiting.ensures (none_left c.self.inside.reached c.self.inside.in_use c.self.inside.groups c.args.self c.self.view_is none faultless) ∙ ap (λ v. v.waiting) c.self.view_is
