use Rattle.std.proofs.Common.{map}
use Rattle.log_tables.specs.Column.{wanted_value}
use Rattle.log_feed.specs.Table.{field_of}
use Rattle.log_feed.proofs.BytesLaws.{fields-told, fields-bytes}
use Rattle.log_feed.proofs.event.fields_message.Goals as goal

pub returns : goal.returns
returns c =
    fields-bytes c.args.name.now c.new-message.result.items c.put_text.new.out.items c.put_columns.new.out.items (map (λ w. field_of (wanted_value w)) c.args.columns.now) _ c.new-message.ensures.items c.in_ok-put_text.ensures.written c.in_ok-put_columns.ensures
    (fields-told wanted_value c.args.columns.now)
