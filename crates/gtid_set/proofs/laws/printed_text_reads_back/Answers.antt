use Rattle.gtid_set.proofs.ReadSet.{printed-reads, flavored-printed-reads}
use Rattle.gtid_set.proofs.laws.printed_text_reads_back.Goals as goal

pub returns : goal.returns
returns c = record { plain = λ set p le. printed-reads set p le; with_flavor = λ set p le. flavored-printed-reads set p le }
