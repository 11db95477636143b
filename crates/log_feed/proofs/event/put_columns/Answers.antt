use Rattle.std.proofs.Common.{◌++◌, map, sym, ◌∙◌}
use Rattle.std.proofs.lemmas.List.{at_drop_all}
use Rattle.proto_wire.specs.Writing.{written_fields}
use Rattle.vevent.specs.WrittenEvent.{message_fields, written_column}
use Rattle.vevent.proofs.WritingSteps.{nothing_then}
use Rattle.log_tables.specs.Column.{wanted_value}
use Rattle.log_feed.specs.Table.{field_of}
use Rattle.log_feed.proofs.BytesLaws.{column-on}
use Rattle.log_feed.proofs.event.put_columns.Goals as goal

pub loop-column-preserved : goal.loop-column-preserved
loop-column-preserved c =
    column-on (λ w. field_of (wanted_value w)) c.args.columns.now c.loop-column.column-index _ c.loop-column.out.items c.put_column.new.out.items _ c.loop-column-test.true c.in_ok-put_column.ensures c.loop-column.invariant

pub returns : goal.returns
returns c =
    let out = c.loop-column.out.items in
    nothing_then _ out
    (sym (at_drop_all (λ xs. out ++ written_fields (message_fields 2 (map written_column (map (λ w. field_of (wanted_value w)) xs)))) c.args.columns.now c.loop-column.column-index c.loop-column-test.false) ∙ c.loop-column.invariant)
