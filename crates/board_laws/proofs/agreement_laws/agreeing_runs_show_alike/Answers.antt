use Rattle.board_laws.proofs.Agreeing.{same-end, disjoint-alike, lone-alike}
use Rattle.board_laws.proofs.agreement_laws.agreeing_runs_show_alike.Goals as goal

pub returns-clause-same : goal.returns-clause-same
returns-clause-same c = same-end (λ a b. (c.keys_tie_where_they_are_equal.ensures a b).0)

pub returns-clause-disjoint : goal.returns-clause-disjoint
returns-clause-disjoint c = disjoint-alike (λ a b. (c.keys_tie_where_they_are_equal.ensures a b).0)

pub returns-clause-lone : goal.returns-clause-lone
returns-clause-lone c = lone-alike (λ a b. (c.keys_tie_where_they_are_equal.ensures a b).0)
