use Rattle.log_laws.proofs.RiseLaws.{course_rises}
use Rattle.log_laws.proofs.laws.courses_rise.Goals as goal

pub returns : goal.returns
returns c = course_rises c.positions_rise.ensures
