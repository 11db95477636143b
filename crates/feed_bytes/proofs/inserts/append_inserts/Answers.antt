use Rattle.std.proofs.Common.{sym}
use Rattle.vevent.specs.WrittenEvent.{written_event}
use Rattle.feed_bytes.specs.Inserts.{inserts}
use Rattle.feed_bytes.proofs.InsertLaws.{framed_one}
use Rattle.feed_bytes.proofs.inserts.append_inserts.Goals as goal

pub returns-clause-written : goal.returns-clause-written
returns-clause-written c =
    let event = written_event (inserts c.args.name.now c.args.rows.now) in
    framed_one c.args.out.now.items c.put_varint.new.out.items c.put_bytes_head.new.out.items c.put_event.new.out.items event c.in_ok-size.size
    (c.in_ok-size.ensures event (sym c.in_ok-event.ensures)) c.in_ok-put_varint.ensures.written (c.in_ok-put_bytes_head.ensures.written event (sym c.in_ok-event.ensures)) c.in_ok-put_event.ensures.written
