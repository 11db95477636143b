use Rattle.log_groups.proofs.MarkLaws.{letters_tested}
use Rattle.log_groups.proofs.statement.same_letters.Goals as goal

pub returns : goal.returns
returns c = letters_tested c.args.one.now c.args.other.now c.eq_ignore_ascii_case.result c.eq_ignore_ascii_case.ensures.test
