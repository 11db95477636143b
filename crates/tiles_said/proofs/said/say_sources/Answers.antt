use Rattle.std.proofs.Common.{map}
use Rattle.serde_json.specs.View.{view}
use Rattle.tiles_said.specs.Said.{SaysSource}
use Rattle.tiles_said.proofs.SaidLaws.{through-more, through-all}
use Rattle.tiles_said.proofs.said.say_sources.Goals as goal

pub loop-source-preserved : goal.loop-source-preserved
loop-source-preserved c =
    through-more (SaysSource (map (λ name. name.now) c.args.names.now) (map view c.args.files.now) c.args.tables.now) c.args.sources.now c.loop-source.source-index c.source-item.result c.loop-source.said c.say_source.new.said c.args.said.now
    c.loop-source-test.true c.source-item.is c.in_ok-say_source.ensures c.loop-source.invariant

pub returns : goal.returns
returns c =
    through-all (SaysSource (map (λ name. name.now) c.args.names.now) (map view c.args.files.now) c.args.tables.now) c.args.sources.now c.loop-source.source-index c.loop-source.said c.args.said.now
    c.loop-source-test.false c.loop-source.invariant
