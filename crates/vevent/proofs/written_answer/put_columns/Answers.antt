use Rattle.std.proofs.Common.{◌++◌, map, sym, ◌∙◌}
use Rattle.std.proofs.lemmas.List.{at_drop_all}
use Rattle.proto_wire.specs.Writing.{written_fields}
use Rattle.vevent.specs.ColumnView.{field_value}
use Rattle.vevent.specs.WrittenEvent.{message_fields, written_column}
use Rattle.vevent.proofs.WritingSteps.{nothing_then, begins_behind}
use Rattle.vevent.proofs.written_answer.put_columns.Goals as goal

pub returns-clause-written : goal.returns-clause-written
returns-clause-written c =
    let out = c.loop-column.out.items in
    nothing_then _ out (sym (at_drop_all (λ xs. out ++ written_fields (message_fields c.args.number (map written_column (map field_value xs)))) c.args.columns.now c.loop-column.column-index c.loop-column-test.false) ∙ c.loop-column.invariant.0)

pub returns-clause-kept : goal.returns-clause-kept
returns-clause-kept c = c.loop-column.invariant.1

pub returns-in_err-put_bytes_head-clause-kept : goal.returns-in_err-put_bytes_head-clause-kept
returns-in_err-put_bytes_head-clause-kept c = begins_behind c.args.out.now.items c.loop-column.out.items c.put_bytes_head.new.out.items c.loop-column.invariant.1 c.put_bytes_head.ensures.kept

pub returns-in_err-put_column-clause-kept : goal.returns-in_err-put_column-clause-kept
returns-in_err-put_column-clause-kept c =
    let kept = begins_behind c.args.out.now.items c.loop-column.out.items c.put_bytes_head.new.out.items c.loop-column.invariant.1 c.put_bytes_head.ensures.kept in
    begins_behind c.args.out.now.items c.put_bytes_head.new.out.items c.put_column.new.out.items kept c.put_column.ensures.kept
