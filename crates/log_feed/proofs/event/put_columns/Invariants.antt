use Rattle.std.proofs.Common.{◌≡◌, ◌++◌, map, drop}
use Rattle.proto_wire.specs.Writing.{written_fields}
use Rattle.vevent.specs.WrittenEvent.{message_fields, written_column}
use Rattle.log_tables.specs.Column.{wanted_value}
use Rattle.log_feed.specs.Table.{field_of}
use Rattle.log_feed.proofs.event.put_columns.Given as goal

-- what is written, and what the columns are written as that are still to come, is what all are written as
abbrev pub invariant-loop-column : goal.invariant-loop-column
invariant-loop-column l =
    l.out.items ++ written_fields (message_fields 2 (map written_column (map (λ w. field_of (wanted_value w)) (drop l.column-index l.columns))))
    ≡ l.fn.out.items ++ written_fields (message_fields 2 (map written_column (map (λ w. field_of (wanted_value w)) l.columns)))
