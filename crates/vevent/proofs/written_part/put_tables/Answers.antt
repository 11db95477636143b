use Rattle.std.proofs.Common.{◌+◌, ◌++◌, map, drop, sym, ◌∙◌}
use Rattle.std.proofs.lemmas.List.{at_drop_all}
use Rattle.proto_wire.specs.Writing.{written_fields}
use Rattle.vevent.specs.ContentView.{table_content}
use Rattle.vevent.specs.WrittenPart.{written_table_part}
use Rattle.vevent.specs.WrittenEvent.{message_fields}
use Rattle.vevent.proofs.WritingSteps.{message_then, nothing_then, at_item, begins_behind}
use Rattle.vevent.proofs.written_part.put_tables.Goals as goal

pub loop-table-preserved : goal.loop-table-preserved
loop-table-preserved c =
    let old = c.args.out.now.items in
    let out = c.loop-table.out.items in
    let mid = c.put_bytes_head.new.out.items in
    let new = c.put_table_part.new.out.items in
    let i = c.loop-table.table-index in
    let message = written_table_part (table_content c.table-item.result) in
    let rest = message_fields 2 (map written_table_part (map table_content (drop (i + 1) c.args.tables.now))) in
    let is = at_item (λ xs. out ++ written_fields (message_fields 2 (map written_table_part (map table_content xs)))) c.args.tables.now i c.table-item.result c.loop-table-test.true c.table-item.is ∙ c.loop-table.invariant.0 in
    let head = c.in_ok-put_bytes_head.ensures.written message (sym c.in_ok-table_part_size.ensures) in
    let kept = begins_behind old out mid c.loop-table.invariant.1 c.put_bytes_head.ensures.kept in
    (message_then _ out mid new message 2 rest is head c.in_ok-put_table_part.ensures.written, begins_behind old mid new kept c.put_table_part.ensures.kept)

pub returns-clause-written : goal.returns-clause-written
returns-clause-written c =
    let out = c.loop-table.out.items in
    nothing_then _ out (sym (at_drop_all (λ xs. out ++ written_fields (message_fields 2 (map written_table_part (map table_content xs)))) c.args.tables.now c.loop-table.table-index c.loop-table-test.false) ∙ c.loop-table.invariant.0)

pub returns-clause-kept : goal.returns-clause-kept
returns-clause-kept c = c.loop-table.invariant.1

pub returns-in_err-put_bytes_head-clause-kept : goal.returns-in_err-put_bytes_head-clause-kept
returns-in_err-put_bytes_head-clause-kept c = begins_behind c.args.out.now.items c.loop-table.out.items c.put_bytes_head.new.out.items c.loop-table.invariant.1 c.put_bytes_head.ensures.kept

pub returns-in_err-put_table_part-clause-kept : goal.returns-in_err-put_table_part-clause-kept
returns-in_err-put_table_part-clause-kept c =
    let kept = begins_behind c.args.out.now.items c.loop-table.out.items c.put_bytes_head.new.out.items c.loop-table.invariant.1 c.put_bytes_head.ensures.kept in
    begins_behind c.args.out.now.items c.put_bytes_head.new.out.items c.put_table_part.new.out.items kept c.put_table_part.ensures.kept
