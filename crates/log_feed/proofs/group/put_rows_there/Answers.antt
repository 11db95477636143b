use Rattle.std.proofs.Common.{map, Ok, sym, ap, ◌∙◌}
use Rattle.log_tables.specs.TableMap.{map_value}
use Rattle.log_rows.specs.Head.{head_value}
use Rattle.log_feed.specs.Table.{table_value, stage_at}
use Rattle.log_feed.specs.Rows.{events_of_rows}
use Rattle.log_feed.specs.Private.Bytes.{with_events}
use Rattle.log_feed.proofs.GroupLaws.{rows-there, rows-wrong, refused-so}
use Rattle.log_feed.proofs.group.put_rows_there.Goals as goal

pub returns-in-Ok : goal.returns-in-Ok
returns-in-Ok c =
    let old = map (λ e. e.items) c.args.events.now.items in
    let new = map (λ e. e.items) c.put_rows.new.events.items in
    let told = ap (λ s. with_events (events_of_rows c.args.kind (map_value c.args.table_map.now) (head_value c.args.head.now) (table_value c.args.table.now) s) old) (sym c.stage_at-stage.ensures) ∙ c.in-Ok.ensures in
    rows-there c.args.place (events_of_rows c.args.kind (map_value c.args.table_map.now) (head_value c.args.head.now) (table_value c.args.table.now) (stage_at c.args.stages.now.items c.args.place)) old new _ told
    ∙ ap (λ s. Ok (new, s)) (sym c.set_stage.ensures)

pub returns-in-Err : goal.returns-in-Err
returns-in-Err c =
    let old = map (λ e. e.items) c.args.events.now.items in
    rows-wrong c.args.place (events_of_rows c.args.kind (map_value c.args.table_map.now) (head_value c.args.head.now) (table_value c.args.table.now) (stage_at c.args.stages.now.items c.args.place)) old _ c.in-Err.error c.in_table.result
    (refused-so c.args.stages.now.items c.args.place c.stage_at-stage.result (λ s. with_events (events_of_rows c.args.kind (map_value c.args.table_map.now) (head_value c.args.head.now) (table_value c.args.table.now) s) old) c.in-Err.error c.stage_at-stage.ensures c.in-Err.ensures)
    c.in_table.ensures
