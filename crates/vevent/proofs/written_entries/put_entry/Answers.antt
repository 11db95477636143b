use Rattle.std.proofs.Common.{◌++◌}
use Rattle.proto_wire.specs.Writing.{text_field}
use Rattle.vevent.proofs.WritingSteps.{written_more, begins_behind}
use Rattle.vevent.proofs.written_entries.put_entry.Goals as goal

pub returns-clause-written : goal.returns-clause-written
returns-clause-written c =
    let entry = c.args.entry.now in
    let old = c.args.out.now.items in
    let keyspace = text_field 1 entry.keyspace.now in
    let shard = text_field 2 entry.shard.now in
    let gtid = text_field 3 entry.gtid.now in
    let first = rw c.as_bytes.ensures.value at c.in_ok-put_text.ensures.written in
    let second = rw c.as_bytes-2.ensures.value at c.in_ok-put_text-2.ensures.written in
    let third = rw c.as_bytes-3.ensures.value at c.in_ok-put_text-3.ensures.written in
    let both = written_more old c.put_text.new.out.items c.put_text-2.new.out.items keyspace shard first second in
    written_more old c.put_text-2.new.out.items c.put_text-3.new.out.items (keyspace ++ shard) gtid both third

pub returns-clause-kept : goal.returns-clause-kept
returns-clause-kept c =
    let old = c.args.out.now.items in
    let both = begins_behind old c.put_text.new.out.items c.put_text-2.new.out.items c.put_text.ensures.kept c.put_text-2.ensures.kept in
    begins_behind old c.put_text-2.new.out.items c.put_text-3.new.out.items both c.put_text-3.ensures.kept

pub returns-in_err-put_text-2-clause-kept : goal.returns-in_err-put_text-2-clause-kept
returns-in_err-put_text-2-clause-kept c = begins_behind c.args.out.now.items c.put_text.new.out.items c.put_text-2.new.out.items c.put_text.ensures.kept c.put_text-2.ensures.kept

pub returns-in_err-put_text-3-clause-kept : goal.returns-in_err-put_text-3-clause-kept
returns-in_err-put_text-3-clause-kept c =
    let old = c.args.out.now.items in
    let both = begins_behind old c.put_text.new.out.items c.put_text-2.new.out.items c.put_text.ensures.kept c.put_text-2.ensures.kept in
    begins_behind old c.put_text-2.new.out.items c.put_text-3.new.out.items both c.put_text-3.ensures.kept
