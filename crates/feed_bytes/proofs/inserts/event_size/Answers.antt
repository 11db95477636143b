use Rattle.std.proofs.Common.{map, sym}
use Rattle.vevent.specs.WrittenEvent.{written_row_event}
use Rattle.feed_bytes.specs.Inserts.{insert_change}
use Rattle.feed_bytes.proofs.InsertLaws.{event_long}
use Rattle.feed_bytes.proofs.inserts.event_size.Goals as goal

pub returns : goal.returns
returns c =
    let message = written_row_event c.args.name.now (map insert_change c.args.rows.now) in
    event_long c.args.name.now c.args.rows.now c.number_field_size-number.result c.in_ok-body.body c.in_ok-size.size c.number_field_size-number.ensures.size
    (c.in_ok-body.ensures message (sym c.in_ok-row_event.ensures)) c.in_ok-size.ensures
