use Rattle.log_laws.proofs.GroupLaws.{last_tells}
use Rattle.log_laws.proofs.laws.ends_are_told.Goals as goal

pub returns : goal.returns
returns c = λ s past far messages right tells e. last_tells (record {
  within = c.within_is_subset.ensures;
  around = c.union_with_a_superset_is_the_superset.ensures.behind;
  reads = c.printed_text_reads_back.ensures.plain;
}) s right past far messages tells e
