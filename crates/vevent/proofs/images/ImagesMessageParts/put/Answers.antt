use Rattle.std.proofs.Common.{◌∙◌, arith, rules}
use Rattle.std.specs.List.{filter_map, list_all}
use Rattle.proto_wire.specs.Parts.{part_in}
use Rattle.vevent.specs.Private.ColumnCount.{all_have, image_has}
use Rattle.std.proofs.Common.{None}
use Rattle.std.specs.Result.{result_err}
use Rattle.row_view.specs.Row.{row_of_message}
use Rattle.vevent.specs.Fault.{first_in, in_change}
use Rattle.vevent.proofs.FirstFault.{option_or-option_or}
use Rattle.vevent.proofs.CountLaws.{and_first, and_second}
use Rattle.vevent.proofs.images.ImagesMessageParts.put.Goals as goal

pub returns-in-1-Bytes-clause-put : goal.returns-in-1-Bytes-clause-put
returns-in-1-Bytes-clause-put c = λ change more h. record {
  before = search rules;
  after = search rules;
  partial = search rules;
  fault =
      let met = rw (c.in-1-Bytes.is-0, c.in-1-Bytes.is-1) at h.fault in
      rw c.put_row.ensures.fault (option_or-option_or c.args.self.now.fault (result_err (row_of_message c.in-1-Bytes.row.now)) (first_in in_change more None) ∙ met);
  columns = λ wanted.
      let met = rw (c.in-1-Bytes.is-0, c.in-1-Bytes.is-1) at (h.columns wanted) in
      rw (c.put_row.ensures.columns wanted) (and_first (all_have c.args.self.now.columns wanted) (image_has wanted c.in-1-Bytes.row.now) (list_all (image_has wanted) (filter_map (part_in 1) more)) (list_all (image_has wanted) (filter_map (part_in 2) more)) ∙ met);
}

pub returns-in-2-Bytes-clause-put : goal.returns-in-2-Bytes-clause-put
returns-in-2-Bytes-clause-put c = λ change more h. record {
  before = search rules;
  after = search rules;
  partial = search rules;
  fault =
      let met = rw (c.in-2-Bytes.is-0, c.in-2-Bytes.is-1) at h.fault in
      rw c.put_row-in-2-Bytes.ensures.fault (option_or-option_or c.args.self.now.fault (result_err (row_of_message c.in-2-Bytes.row.now)) (first_in in_change more None) ∙ met);
  columns = λ wanted. grind (arith, and_second);
}
