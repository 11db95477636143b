use Rattle.std.proofs.Common.{map, ap, ◌∙◌}
use Rattle.log_tables.specs.Column.{column_value}
use Rattle.log_rows.specs.Head.{head_value}
use Rattle.log_feed.specs.Private.Bytes.{event_with}
use Rattle.log_feed.proofs.BytesLaws.{row-refused, row-made}
use Rattle.log_feed.proofs.event.row_under.Goals as goal

pub returns-in-Err : goal.returns-in-Err
returns-in-Err c = row-refused c.args.name.now c.args.kind (head_value c.args.head.now) (map column_value c.args.columns.now) c.in-Err.error c.in-Err.ensures

pub returns-in_ok-event-in-Ok : goal.returns-in_ok-event-in-Ok
returns-in_ok-event-in-Ok c =
    row-made c.args.name.now c.fill_message.new.one.message.items c.in_ok-event-in-Ok.event.items c.args.kind (head_value c.args.head.now) (map column_value c.args.columns.now) c.in-Ok.ensures
    (c.in_ok-event-in-Ok.ensures ∙ ap (event_with 12 5) c.deref.ensures.value)
