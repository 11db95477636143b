use Rattle.std.proofs.Common.{◌∙◌, None, rules}
use Rattle.std.specs.Result.{result_err}
use Rattle.row_view.specs.Row.{row_of_message}
use Rattle.vevent.specs.Fault.{first_in}
use Rattle.vevent.specs.Answer.{in_rows}
use Rattle.vevent.proofs.FirstFault.{option_or-option_or}
use Rattle.vevent.proofs.answer_parts.AnswerPartsMessageParts.put.Goals as goal

pub returns-in-5-Bytes-clause-put : goal.returns-in-5-Bytes-clause-put
returns-in-5-Bytes-clause-put c = λ answer more h. record {
  names = search rules;
  gtid = search rules;
  fault =
      let met = rw (c.in-5-Bytes.is-0, c.in-5-Bytes.is-1) at h.fault in
      rw (c.or-self-in-5-Bytes.ensures, c.row_fault_of-in-5-Bytes.ensures) (option_or-option_or c.args.self.now.fault (result_err (row_of_message c.in-5-Bytes.row.now)) (first_in in_rows more None) ∙ met);
  lastpk = search rules;
  lastpks = search rules;
}
