use Rattle.pk_copy.specs.MarkOrderLaws.{marks_cmp_total}
use Rattle.pk_copy.proofs.TieLaws.{marks-tie}
use Rattle.pk_copy.proofs.laws.marks_tie_where_they_are_equal.Goals as goal

pub returns-clause-total : goal.returns-clause-total
returns-clause-total c = marks_cmp_total

pub returns-clause-ties : goal.returns-clause-ties
returns-clause-ties c = marks-tie
