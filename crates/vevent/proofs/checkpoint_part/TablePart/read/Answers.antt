use Rattle.std.proofs.Common.{◌∙◌}
use Rattle.vevent.specs.CheckpointPart.{table_conditions, table_part_of, table_part_at}
use Rattle.vevent.proofs.JudgingLaws.{value_stands, fault_stands, every_value, every_fault}
use Rattle.vevent.proofs.checkpoint_part.TablePart.read.Goals as goal

pub returns-clause-part : goal.returns-clause-part
unfolding table_part_at
returns-clause-part c = value_stands table_conditions table_part_of c.args.bytes.now c.table_of_bytes.result c.table_of_bytes.ensures

pub returns-clause-refused : goal.returns-clause-refused
unfolding table_part_at
returns-clause-refused c = fault_stands table_conditions table_part_of c.args.bytes.now c.table_of_bytes.result c.table_of_bytes.ensures

pub returns-clause-every_part : goal.returns-clause-every_part
unfolding table_part_at
returns-clause-every_part c = λ value h. c.table_of_bytes.ensures ∙ every_value table_conditions table_part_of c.args.bytes.now value h

pub returns-clause-every_refusal : goal.returns-clause-every_refusal
unfolding table_part_at
returns-clause-every_refusal c = λ fault h. c.table_of_bytes.ensures ∙ every_fault table_conditions table_part_of c.args.bytes.now fault h
