use Rattle.std.proofs.Common.{◌+◌, map, length, sym, ◌∙◌, arith}
use Rattle.std.proofs.lemmas.List.{at_drop_all}
use Rattle.proto_wire.specs.Writing.{written_fields}
use Rattle.vevent.specs.ColumnView.{field_value}
use Rattle.vevent.specs.WrittenEvent.{message_fields, written_column}
use Rattle.vevent.proofs.written_answer.columns_size.Goals as goal

pub returns : goal.returns
returns c =
    let is = sym (at_drop_all (λ xs. c.loop-column.size + length (written_fields (message_fields c.args.number (map written_column (map field_value xs))))) c.args.columns.now c.loop-column.column-index c.loop-column-test.false) ∙ c.loop-column.invariant in
    omega (arith, is)
