use Rattle.std.proofs.Common.{◌∙◌}
use Rattle.vevent.specs.CheckpointPart.{stream_conditions, stream_part_of, stream_part_at}
use Rattle.vevent.proofs.JudgingLaws.{value_stands, fault_stands, every_value, every_fault}
use Rattle.vevent.proofs.checkpoint_part.StreamPart.read.Goals as goal

pub returns-clause-part : goal.returns-clause-part
unfolding stream_part_at
returns-clause-part c = value_stands stream_conditions stream_part_of c.args.bytes.now c.stream_of_bytes.result c.stream_of_bytes.ensures

pub returns-clause-refused : goal.returns-clause-refused
unfolding stream_part_at
returns-clause-refused c = fault_stands stream_conditions stream_part_of c.args.bytes.now c.stream_of_bytes.result c.stream_of_bytes.ensures

pub returns-clause-every_part : goal.returns-clause-every_part
unfolding stream_part_at
returns-clause-every_part c = λ value h. c.stream_of_bytes.ensures ∙ every_value stream_conditions stream_part_of c.args.bytes.now value h

pub returns-clause-every_refusal : goal.returns-clause-every_refusal
unfolding stream_part_at
returns-clause-every_refusal c = λ fault h. c.stream_of_bytes.ensures ∙ every_fault stream_conditions stream_part_of c.args.bytes.now fault h
