use Rattle.log_course.proofs.CourseLaws.{courses_read}
use Rattle.log_course.proofs.laws.courses_are_read.Goals as goal

pub returns : goal.returns
returns c = courses_read
