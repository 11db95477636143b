use Rattle.std.proofs.Common.{◌++◌, map}
use Rattle.proto_wire.specs.Writing.{text_field}
use Rattle.row_view.specs.WrittenRow.{written_row}
use Rattle.vevent.specs.ColumnView.{field_value}
use Rattle.vevent.specs.WrittenEvent.{message_fields, row_field, written_column}
use Rattle.vevent.proofs.WritingSteps.{written_more, begins_behind}
use Rattle.vevent.proofs.written_answer.put_answer.Goals as goal

pub returns-clause-written : goal.returns-clause-written
returns-clause-written c =
    let answer = c.args.answer.now in
    let old = c.args.out.now.items in
    let one = message_fields 1 (map written_column (map field_value answer.fields.now)) in
    let two = message_fields 2 (map written_column (map field_value answer.pkfields.now)) in
    let three = text_field 3 answer.gtid.now in
    let four = message_fields 4 (map written_row answer.rows.now) in
    let text = rw c.as_bytes.ensures.value at c.in_ok-put_text.ensures.written in
    let key = rw c.view_of.ensures at c.in_ok-put_row_field.ensures.written in
    let second = written_more old c.put_columns.new.out.items c.put_columns-2.new.out.items one two c.in_ok-put_columns.ensures.written c.in_ok-put_columns-2.ensures.written in
    let third = written_more old c.put_columns-2.new.out.items c.put_text.new.out.items (one ++ two) three second text in
    let fourth = written_more old c.put_text.new.out.items c.put_rows.new.out.items (one ++ two ++ three) four third c.in_ok-put_rows.ensures.written in
    written_more old c.put_rows.new.out.items c.put_row_field.new.out.items (one ++ two ++ three ++ four) (row_field 5 answer.lastpk) fourth key

pub returns-clause-kept : goal.returns-clause-kept
returns-clause-kept c =
    let old = c.args.out.now.items in
    let second = begins_behind old c.put_columns.new.out.items c.put_columns-2.new.out.items c.put_columns.ensures.kept c.put_columns-2.ensures.kept in
    let third = begins_behind old c.put_columns-2.new.out.items c.put_text.new.out.items second c.put_text.ensures.kept in
    let fourth = begins_behind old c.put_text.new.out.items c.put_rows.new.out.items third c.put_rows.ensures.kept in
    begins_behind old c.put_rows.new.out.items c.put_row_field.new.out.items fourth c.put_row_field.ensures.kept

pub returns-in_err-put_columns-2-clause-kept : goal.returns-in_err-put_columns-2-clause-kept
returns-in_err-put_columns-2-clause-kept c = begins_behind c.args.out.now.items c.put_columns.new.out.items c.put_columns-2.new.out.items c.put_columns.ensures.kept c.put_columns-2.ensures.kept

pub returns-in_err-put_text-clause-kept : goal.returns-in_err-put_text-clause-kept
returns-in_err-put_text-clause-kept c =
    let old = c.args.out.now.items in
    let second = begins_behind old c.put_columns.new.out.items c.put_columns-2.new.out.items c.put_columns.ensures.kept c.put_columns-2.ensures.kept in
    begins_behind old c.put_columns-2.new.out.items c.put_text.new.out.items second c.put_text.ensures.kept

pub returns-in_err-put_rows-clause-kept : goal.returns-in_err-put_rows-clause-kept
returns-in_err-put_rows-clause-kept c =
    let old = c.args.out.now.items in
    let second = begins_behind old c.put_columns.new.out.items c.put_columns-2.new.out.items c.put_columns.ensures.kept c.put_columns-2.ensures.kept in
    let third = begins_behind old c.put_columns-2.new.out.items c.put_text.new.out.items second c.put_text.ensures.kept in
    begins_behind old c.put_text.new.out.items c.put_rows.new.out.items third c.put_rows.ensures.kept

pub returns-in_err-put_row_field-clause-kept : goal.returns-in_err-put_row_field-clause-kept
returns-in_err-put_row_field-clause-kept c =
    let old = c.args.out.now.items in
    let second = begins_behind old c.put_columns.new.out.items c.put_columns-2.new.out.items c.put_columns.ensures.kept c.put_columns-2.ensures.kept in
    let third = begins_behind old c.put_columns-2.new.out.items c.put_text.new.out.items second c.put_text.ensures.kept in
    let fourth = begins_behind old c.put_text.new.out.items c.put_rows.new.out.items third c.put_rows.ensures.kept in
    begins_behind old c.put_rows.new.out.items c.put_row_field.new.out.items fourth c.put_row_field.ensures.kept
