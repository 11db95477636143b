use Rattle.std.proofs.Common.{sym, ◌∙◌}
use Rattle.log_feed.specs.Table.{table_value}
use Rattle.log_transcribe.proofs.SeenLaws.{name-here, name-further, name-nowhere}
use Rattle.log_transcribe.proofs.said.table_of.Goals as goal

pub returns-then-is_named : goal.returns-then-is_named
returns-then-is_named c =
    name-here table_value c.args.tables.now c.loop-place.place c.args.name.now _ c.index-tables-place.result c.loop-place-test.true c.index-tables-place.is (sym c.is_named.ensures ∙ c.if-is_named.true) c.loop-place.invariant

pub loop-place-preserved : goal.loop-place-preserved
loop-place-preserved c =
    name-further table_value c.args.tables.now c.loop-place.place c.args.name.now _ c.index-tables-place.result c.loop-place-test.true c.index-tables-place.is (sym c.is_named.ensures ∙ c.if-is_named.false) c.loop-place.invariant

pub returns : goal.returns
returns c = name-nowhere table_value c.args.tables.now c.loop-place.place c.args.name.now _ c.loop-place-test.false c.loop-place.invariant
