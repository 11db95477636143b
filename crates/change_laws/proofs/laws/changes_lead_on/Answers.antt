use Rattle.change_laws.proofs.Leading.{changes-lead, all-lead}
use Rattle.change_laws.proofs.laws.changes_lead_on.Goals as goal

pub returns-clause-touched : goal.returns-clause-touched
returns-clause-touched c = changes-lead (λ a b. (c.keys_tie_where_they_are_equal.ensures a b).0)

pub returns-clause-all : goal.returns-clause-all
returns-clause-all c = all-lead
