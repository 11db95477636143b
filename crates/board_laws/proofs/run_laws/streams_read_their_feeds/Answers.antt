use Rattle.board_laws.proofs.FeedLaws.{run-reads, none_clashes}
use Rattle.board_laws.proofs.run_laws.streams_read_their_feeds.Goals as goal

pub returns-clause-reads : goal.returns-clause-reads
returns-clause-reads c = run-reads

pub returns-clause-disjoint : goal.returns-clause-disjoint
returns-clause-disjoint c = none_clashes
