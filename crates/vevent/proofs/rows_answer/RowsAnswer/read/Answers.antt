use Rattle.std.proofs.Common.{◌∙◌}
use Rattle.vevent.specs.Answer.{answer_conditions, answer_of, answer_at}
use Rattle.vevent.proofs.JudgingLaws.{value_stands, fault_stands, every_value, every_fault}
use Rattle.vevent.proofs.rows_answer.RowsAnswer.read.Goals as goal

pub returns-clause-answer : goal.returns-clause-answer
unfolding answer_at
returns-clause-answer c = value_stands answer_conditions answer_of c.args.bytes.now c.answer_of_bytes.result c.answer_of_bytes.ensures

pub returns-clause-refused : goal.returns-clause-refused
unfolding answer_at
returns-clause-refused c = fault_stands answer_conditions answer_of c.args.bytes.now c.answer_of_bytes.result c.answer_of_bytes.ensures

pub returns-clause-every_answer : goal.returns-clause-every_answer
unfolding answer_at
returns-clause-every_answer c = λ value h. c.answer_of_bytes.ensures ∙ every_value answer_conditions answer_of c.args.bytes.now value h

pub returns-clause-every_refusal : goal.returns-clause-every_refusal
unfolding answer_at
returns-clause-every_refusal c = λ fault h. c.answer_of_bytes.ensures ∙ every_fault answer_conditions answer_of c.args.bytes.now fault h
