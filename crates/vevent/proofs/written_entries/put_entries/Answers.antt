use Rattle.std.proofs.Common.{◌++◌, map, sym, ap, ◌∙◌}
use Rattle.proto_wire.specs.Writing.{written_fields}
use Rattle.vevent.specs.ShardGtidView.{shard_gtid_value}
use Rattle.vevent.specs.WrittenEvent.{message_fields, written_shard_gtid}
use Rattle.vevent.proofs.WritingSteps.{message_then, nothing_then, begins_behind}
use Rattle.vevent.proofs.written_entries.put_entries.Goals as goal

pub loop-entry-preserved : goal.loop-entry-preserved
loop-entry-preserved c =
    let out = c.loop-entry.out.items in
    let mid = c.put_bytes_head.new.out.items in
    let new = c.put_entry.new.out.items in
    let message = written_shard_gtid (shard_gtid_value c.in-Some.entry) in
    let is = ap (λ xs. out ++ written_fields (message_fields 1 (map written_shard_gtid xs))) (sym c.in-Some.ensures.steps) ∙ c.loop-entry.invariant.0 in
    let head = c.in_ok-put_bytes_head.ensures.written message (sym c.in_ok-entry_size.ensures) in
    let kept = begins_behind c.args.out.now.items out mid c.loop-entry.invariant.1 c.put_bytes_head.ensures.kept in
    (message_then _ out mid new message 1 (message_fields 1 (map written_shard_gtid c.next.new.self)) is head c.in_ok-put_entry.ensures.written, begins_behind c.args.out.now.items mid new kept c.put_entry.ensures.kept)

pub returns-clause-written : goal.returns-clause-written
returns-clause-written c =
    let out = c.loop-entry.out.items in
    let is = ap (λ xs. out ++ written_fields (message_fields 1 (map written_shard_gtid xs))) (sym c.in-None.ensures.steps.0) ∙ c.loop-entry.invariant.0 in
    nothing_then _ out is

pub returns-clause-kept : goal.returns-clause-kept
returns-clause-kept c = c.loop-entry.invariant.1

pub returns-in_err-put_bytes_head-clause-kept : goal.returns-in_err-put_bytes_head-clause-kept
returns-in_err-put_bytes_head-clause-kept c = begins_behind c.args.out.now.items c.loop-entry.out.items c.put_bytes_head.new.out.items c.loop-entry.invariant.1 c.put_bytes_head.ensures.kept

pub returns-in_err-put_entry-clause-kept : goal.returns-in_err-put_entry-clause-kept
returns-in_err-put_entry-clause-kept c =
    let kept = begins_behind c.args.out.now.items c.loop-entry.out.items c.put_bytes_head.new.out.items c.loop-entry.invariant.1 c.put_bytes_head.ensures.kept in
    begins_behind c.args.out.now.items c.put_bytes_head.new.out.items c.put_entry.new.out.items kept c.put_entry.ensures.kept
