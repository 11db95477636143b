use Rattle.log_groups.specs.Body.{query_value}
use Rattle.log_feed.specs.Table.{table_value}
use Rattle.log_feed.proofs.GroupLaws.{altered-on, altered-refused, altered-done}
use Rattle.log_feed.proofs.group.alter_all.Goals as goal

pub returns-in-Err : goal.returns-in-Err
returns-in-Err c =
    altered-refused table_value c.args.tables.now c.loop-place.place c.args.schema.now (query_value c.args.query.now) c.loop-place.stages.items _ c.index-tables-place.result c.in-Err.error c.loop-place-test.true c.index-tables-place.is c.in-Err.ensures c.loop-place.invariant

pub loop-place-preserved : goal.loop-place-preserved
loop-place-preserved c =
    altered-on table_value c.args.tables.now c.loop-place.place c.args.schema.now (query_value c.args.query.now) c.loop-place.stages.items c.alter_one.new.stages.items _ c.index-tables-place.result c.loop-place-test.true c.index-tables-place.is c.in_default.ensures c.loop-place.invariant

pub returns : goal.returns
returns c = altered-done table_value c.args.tables.now c.loop-place.place c.args.schema.now (query_value c.args.query.now) c.loop-place.stages.items _ c.loop-place-test.false c.loop-place.invariant
