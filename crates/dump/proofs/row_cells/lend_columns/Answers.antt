use Rattle.std.proofs.Common.{◌+◌, ◌<◌, ◌∙◌, ℕ, length, map, take, ap, arith, slice_set}
use Rattle.std.specs.Option.{option_map}
use Rattle.std.proofs.lemmas.List.{take_more_set, length-set}
use Rattle.row_view.specs.ColumnValue.{column_value}
use Rattle.dump.specs.Private.Spans.{bytes_at}
use Rattle.dump.proofs.ReadingLaws.{map_more}
use Rattle.dump.proofs.SpanLaws.{within_at}
use Rattle.dump.proofs.row_cells.lend_columns.Goals as goal

pub column_of-requires : goal.column_of-requires
column_of-requires c = within_at (length c.args.values.now) c.loop-span.span-index c.args.spans.now _ c.loop-span-test.true c.requires.within

pub loop-span-preserved : goal.loop-span-preserved
loop-span-preserved c =
    let i : ℕ = c.loop-span.span-index in
    let room = c.loop-span.room in
    let inside : i < length room = omega (arith, c.loop-span-test.true, c.requires.few, c.loop-span.invariant.room) in
    record {
      so_far =
          ap (λ (n : ℕ). map column_value (take (i + 1) (slice_set room n c.column_of.result))) c.loop-span.invariant.place
          ∙ ap (map column_value) (take_more_set room i c.column_of.result inside)
          ∙ map_more column_value (option_map (bytes_at c.args.values.now)) (take i room) c.args.spans.now i c.column_of.result _ c.loop-span.invariant.so_far c.column_of.ensures c.loop-span-test.true;
      room = length-set room c.loop-span.place c.column_of.result ∙ c.loop-span.invariant.room;
      place = ap (λ (n : ℕ). n + 1) c.loop-span.invariant.place;
    }
