use Rattle.log_laws.proofs.GroupLaws.{groups_reach}
use Rattle.log_laws.proofs.laws.transactions_reach.Goals as goal

pub returns : goal.returns
returns c = λ s past transactions old new messages right tells rising e. groups_reach (record {
  within = c.within_is_subset.ensures;
  around = c.union_with_a_superset_is_the_superset.ensures.behind;
  reads = c.printed_text_reads_back.ensures.plain;
}) s right past transactions old new messages tells rising e
