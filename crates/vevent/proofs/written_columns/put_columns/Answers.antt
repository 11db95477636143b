use Rattle.std.proofs.Common.{◌++◌, map, sym, ap, ◌∙◌}
use Rattle.proto_wire.specs.Writing.{written_fields}
use Rattle.vevent.specs.ColumnView.{field_value}
use Rattle.vevent.specs.WrittenEvent.{message_fields, written_column}
use Rattle.vevent.proofs.WritingSteps.{message_then, nothing_then, begins_behind}
use Rattle.vevent.proofs.written_columns.put_columns.Goals as goal

pub loop-column-preserved : goal.loop-column-preserved
loop-column-preserved c =
    let out = c.loop-column.out.items in
    let mid = c.put_bytes_head.new.out.items in
    let new = c.put_column.new.out.items in
    let message = written_column (field_value c.in-Some.column) in
    let is = ap (λ xs. out ++ written_fields (message_fields 2 (map written_column xs))) (sym c.in-Some.ensures.steps) ∙ c.loop-column.invariant.0 in
    let head = c.in_ok-put_bytes_head.ensures.written message (sym c.in_ok-column_size.ensures) in
    let kept = begins_behind c.args.out.now.items out mid c.loop-column.invariant.1 c.put_bytes_head.ensures.kept in
    (message_then _ out mid new message 2 (message_fields 2 (map written_column c.next.new.self)) is head c.in_ok-put_column.ensures.written, begins_behind c.args.out.now.items mid new kept c.put_column.ensures.kept)

pub returns-clause-written : goal.returns-clause-written
returns-clause-written c =
    let out = c.loop-column.out.items in
    let is = ap (λ xs. out ++ written_fields (message_fields 2 (map written_column xs))) (sym c.in-None.ensures.steps.0) ∙ c.loop-column.invariant.0 in
    nothing_then _ out is

pub returns-clause-kept : goal.returns-clause-kept
returns-clause-kept c = c.loop-column.invariant.1

pub returns-in_err-put_bytes_head-clause-kept : goal.returns-in_err-put_bytes_head-clause-kept
returns-in_err-put_bytes_head-clause-kept c = begins_behind c.args.out.now.items c.loop-column.out.items c.put_bytes_head.new.out.items c.loop-column.invariant.1 c.put_bytes_head.ensures.kept

pub returns-in_err-put_column-clause-kept : goal.returns-in_err-put_column-clause-kept
returns-in_err-put_column-clause-kept c =
    let kept = begins_behind c.args.out.now.items c.loop-column.out.items c.put_bytes_head.new.out.items c.loop-column.invariant.1 c.put_bytes_head.ensures.kept in
    begins_behind c.args.out.now.items c.put_bytes_head.new.out.items c.put_column.new.out.items kept c.put_column.ensures.kept
