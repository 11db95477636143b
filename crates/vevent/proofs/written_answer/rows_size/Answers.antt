use Rattle.std.proofs.Common.{◌+◌, ◌∷◌, map, length, drop, sym, ◌∙◌}
use Rattle.proto_wire.specs.Writing.{written_fields, message_field}
use Rattle.row_view.specs.WrittenRow.{written_row}
use Rattle.vevent.specs.WrittenEvent.{message_fields}
use Rattle.vevent.proofs.WritingSteps.{at_item, counted_then}
use Rattle.vevent.proofs.written_answer.rows_size.Goals as goal

pub loop-row-preserved : goal.loop-row-preserved
loop-row-preserved c =
    let i = c.loop-row.row-index in
    let message = written_row c.row-item.result in
    let is = at_item (λ xs. c.loop-row.size + length (written_fields (message_fields 4 (map written_row xs)))) c.args.rows.now i c.row-item.result c.loop-row-test.true c.row-item.is ∙ c.loop-row.invariant in
    counted_then _ c.loop-row.size c.in_ok-one.one c.in_ok-size.size (message_field 4 message) (message_fields 4 (map written_row (drop (i + 1) c.args.rows.now))) is (c.in_ok-one.ensures message (sym c.in_ok-written_size.ensures)) c.in_ok-size.ensures
