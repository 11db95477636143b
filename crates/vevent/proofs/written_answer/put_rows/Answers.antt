use Rattle.std.proofs.Common.{◌+◌, ◌++◌, ◌∷◌, map, drop, sym, ap, ◌∙◌}
use Rattle.std.proofs.lemmas.List.{at_drop_all}
use Rattle.proto_wire.specs.Writing.{written_fields, message_field}
use Rattle.row_view.specs.WrittenRow.{written_row}
use Rattle.vevent.specs.WrittenEvent.{message_fields}
use Rattle.vevent.proofs.WritingSteps.{message_then, nothing_then, at_item, begins_behind}
use Rattle.vevent.proofs.written_answer.put_rows.Goals as goal

pub loop-row-preserved : goal.loop-row-preserved
loop-row-preserved c =
    let old = c.args.out.now.items in
    let out = c.loop-row.out.items in
    let mid = c.put_bytes_head.new.out.items in
    let new = c.write.new.out.items in
    let i = c.loop-row.row-index in
    let message = written_row c.row-item.result in
    let rest = message_fields 4 (map written_row (drop (i + 1) c.args.rows.now)) in
    let is = at_item (λ xs. out ++ written_fields (message_fields 4 (map written_row xs))) c.args.rows.now i c.row-item.result c.loop-row-test.true c.row-item.is ∙ c.loop-row.invariant.0 in
    let head = c.in_ok-put_bytes_head.ensures.written message (sym c.in_ok-written_size.ensures) in
    let kept = begins_behind old out mid c.loop-row.invariant.1 c.put_bytes_head.ensures.kept in
    (message_then _ out mid new message 4 rest is head c.in_ok-write.ensures.written, begins_behind old mid new kept (record { more = message; is = c.in_ok-write.ensures.written }))

pub returns-clause-written : goal.returns-clause-written
returns-clause-written c =
    let out = c.loop-row.out.items in
    nothing_then _ out (sym (at_drop_all (λ xs. out ++ written_fields (message_fields 4 (map written_row xs))) c.args.rows.now c.loop-row.row-index c.loop-row-test.false) ∙ c.loop-row.invariant.0)

pub returns-clause-kept : goal.returns-clause-kept
returns-clause-kept c = c.loop-row.invariant.1

pub returns-in_err-put_bytes_head-clause-kept : goal.returns-in_err-put_bytes_head-clause-kept
returns-in_err-put_bytes_head-clause-kept c = begins_behind c.args.out.now.items c.loop-row.out.items c.put_bytes_head.new.out.items c.loop-row.invariant.1 c.put_bytes_head.ensures.kept
