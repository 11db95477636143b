use Rattle.std.proofs.Common.{◌+◌, ◌++◌, ◌∷◌, map, drop, sym, ap, ◌∙◌}
use Rattle.std.proofs.lemmas.List.{at_drop_all}
use Rattle.proto_wire.specs.Writing.{written_fields, message_field}
use Rattle.vevent.specs.WrittenEvent.{message_fields, written_change}
use Rattle.vevent.proofs.WritingSteps.{message_then, nothing_then, at_item, begins_behind}
use Rattle.feed_bytes.specs.Inserts.{insert_change}
use Rattle.feed_bytes.proofs.inserts.put_changes.Goals as goal

pub loop-row-preserved : goal.loop-row-preserved
loop-row-preserved c =
    let old = c.args.out.now.items in
    let out = c.loop-row.out.items in
    let mid = c.put_bytes_head.new.out.items in
    let new = c.put_insert.new.out.items in
    let i = c.loop-row.row-index in
    let message = written_change (insert_change c.view-row.result) in
    let rest = message_fields 2 (map written_change (map insert_change (drop (i + 1) c.args.rows.now))) in
    let is = at_item (λ xs. out ++ written_fields (message_fields 2 (map written_change (map insert_change xs)))) c.args.rows.now i c.row-item.result c.loop-row-test.true c.row-item.is ∙ c.loop-row.invariant.0 in
    let is = ap (λ r. out ++ written_fields (message_field 2 (written_change (insert_change r)) ∷ rest)) c.view-row.ensures ∙ is in
    let head = c.in_ok-put_bytes_head.ensures.written message (sym c.in_ok-insert_size.ensures) in
    let kept = begins_behind old out mid c.loop-row.invariant.1 c.put_bytes_head.ensures.kept in
    (message_then _ out mid new message 2 rest is head c.in_ok-put_insert.ensures.written, begins_behind old mid new kept c.put_insert.ensures.kept)

pub returns-clause-written : goal.returns-clause-written
returns-clause-written c =
    let out = c.loop-row.out.items in
    nothing_then _ out (sym (at_drop_all (λ xs. out ++ written_fields (message_fields 2 (map written_change (map insert_change xs)))) c.args.rows.now c.loop-row.row-index c.loop-row-test.false) ∙ c.loop-row.invariant.0)

pub returns-clause-kept : goal.returns-clause-kept
returns-clause-kept c = c.loop-row.invariant.1

pub returns-in_err-put_bytes_head-clause-kept : goal.returns-in_err-put_bytes_head-clause-kept
returns-in_err-put_bytes_head-clause-kept c = begins_behind c.args.out.now.items c.loop-row.out.items c.put_bytes_head.new.out.items c.loop-row.invariant.1 c.put_bytes_head.ensures.kept

pub returns-in_err-put_insert-clause-kept : goal.returns-in_err-put_insert-clause-kept
returns-in_err-put_insert-clause-kept c =
    let kept = begins_behind c.args.out.now.items c.loop-row.out.items c.put_bytes_head.new.out.items c.loop-row.invariant.1 c.put_bytes_head.ensures.kept in
    begins_behind c.args.out.now.items c.put_bytes_head.new.out.items c.put_insert.new.out.items kept c.put_insert.ensures.kept
