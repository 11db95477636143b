use Rattle.apply_core.proofs.FedLaws.{joins-fed}
use Rattle.apply_core.proofs.joining.join.Goals as goal

pub returns-clause-commute : goal.returns-clause-commute
returns-clause-commute c = c.joins_are_a_greatest_board.ensures.commute

pub returns-clause-itself : goal.returns-clause-itself
returns-clause-itself c = c.joins_are_a_greatest_board.ensures.itself

pub returns-clause-associate : goal.returns-clause-associate
returns-clause-associate c = c.joins_are_a_greatest_board.ensures.associate

pub returns-clause-running : goal.returns-clause-running
returns-clause-running c = c.joins_are_a_greatest_board.ensures.running

pub returns-clause-disjoint : goal.returns-clause-disjoint
returns-clause-disjoint c = c.boards_can_be_joined.ensures.disjoint

pub returns-clause-fed : goal.returns-clause-fed
returns-clause-fed c = joins-fed c.joined_boards_are_lawful.ensures.boards c.args.a c.args.b c.join_by_source.result c.join_by_source.ensures.joined
