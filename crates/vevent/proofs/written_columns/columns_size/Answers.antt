use Rattle.std.proofs.Common.{◌+◌, map, length, sym, ap, ◌∙◌, arith}
use Rattle.proto_wire.specs.Writing.{written_fields, message_field}
use Rattle.vevent.specs.ColumnView.{field_value}
use Rattle.vevent.specs.WrittenEvent.{message_fields, written_column}
use Rattle.vevent.proofs.WritingSteps.{counted_then}
use Rattle.vevent.proofs.written_columns.columns_size.Goals as goal

pub loop-column-preserved : goal.loop-column-preserved
loop-column-preserved c =
    let message = written_column (field_value c.in-Some.column) in
    let is = ap (λ xs. c.loop-column.size + length (written_fields (message_fields 2 (map written_column xs)))) (sym c.in-Some.ensures.steps) ∙ c.loop-column.invariant in
    counted_then _ c.loop-column.size c.in_ok-one.one c.in_ok-size.size (message_field 2 message) (message_fields 2 (map written_column c.next.new.self)) is (c.in_ok-one.ensures message (sym c.in_ok-column_size.ensures)) c.in_ok-size.ensures

pub returns : goal.returns
returns c =
    let is = ap (λ xs. c.loop-column.size + length (written_fields (message_fields 2 (map written_column xs)))) (sym c.in-None.ensures.steps.0) ∙ c.loop-column.invariant in
    omega (arith, is)
