use Rattle.std.proofs.Common.{◌+◌, ◌++◌, length, map, drop, sym, ap, ◌∙◌, arith}
use Rattle.std.proofs.lemmas.List.{at_drop_all, length-append}
use Rattle.proto_wire.specs.Writing.{written_fields}
use Rattle.vevent.specs.ContentView.{table_content}
use Rattle.vevent.specs.WrittenPart.{written_table_part}
use Rattle.vevent.specs.WrittenEvent.{message_fields}
use Rattle.vevent.proofs.WritingSteps.{nothing_then, at_item}
use Rattle.checkpoint_core.proofs.FramedLaws.{made_then}
use Rattle.checkpoint_core.proofs.framed.put_tables.Goals as goal

pub make_message-requires : goal.make_message-requires
make_message-requires c =
    omega (arith, c.len-start.ensures, c.loop-table.out.ok.0, ap length c.in_ok-put_table.ensures, length-append c.loop-table.out.items (written_table_part (table_content c.table-item.result)))

pub loop-table-preserved : goal.loop-table-preserved
loop-table-preserved c =
    let out = c.loop-table.out.items in
    let i = c.loop-table.table-index in
    let message = written_table_part (table_content c.table-item.result) in
    let rest = message_fields 2 (map written_table_part (map table_content (drop (i + 1) c.args.tables.now))) in
    let is = at_item (λ xs. out ++ written_fields (message_fields 2 (map written_table_part (map table_content xs)))) c.args.tables.now i c.table-item.result c.loop-table-test.true c.table-item.is ∙ c.loop-table.invariant in
    let made = c.in_ok-make_message.ensures out message (omega (arith, c.len-start.ensures, c.loop-table.out.ok.0)) c.in_ok-put_table.ensures in
    made_then _ out c.make_message.new.out.items message 2 rest is made

pub returns : goal.returns
returns c =
    let out = c.loop-table.out.items in
    nothing_then _ out (sym (at_drop_all (λ xs. out ++ written_fields (message_fields 2 (map written_table_part (map table_content xs)))) c.args.tables.now c.loop-table.table-index c.loop-table-test.false) ∙ c.loop-table.invariant)
