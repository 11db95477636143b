use Rattle.std.proofs.Common.{map}
use Rattle.serde_json.specs.View.{view}
use Rattle.tiles_said.specs.Said.{SaysPair}
use Rattle.tiles_said.proofs.SaidLaws.{through-more, through-all}
use Rattle.tiles_said.proofs.said.say_source.Goals as goal

pub loop-table-preserved : goal.loop-table-preserved
loop-table-preserved c =
    through-more (SaysPair (map (λ name. name.now) c.args.names.now) (map view c.args.files.now) c.args.source.now) c.args.tables.now c.loop-table.table-index c.table-item.result c.loop-table.said c.say_pair.new.said c.args.said.now
    c.loop-table-test.true c.table-item.is (rw c.text.ensures at c.in_ok-say_pair.ensures) c.loop-table.invariant

pub returns : goal.returns
returns c =
    through-all (SaysPair (map (λ name. name.now) c.args.names.now) (map view c.args.files.now) c.args.source.now) c.args.tables.now c.loop-table.table-index c.loop-table.said c.args.said.now
    c.loop-table-test.false c.loop-table.invariant
