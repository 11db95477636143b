use Rattle.std.proofs.Common.{drop, map}
use Rattle.serde_json.specs.View.{view}
use Rattle.tiles_said.specs.Said.{SaidValue, SaysSource, Through}
use Rattle.tiles_said.proofs.said.say_sources.Given as goal

-- what the source shards that are left make of what is said so far is what all make of the beginning
abbrev pub invariant-loop-source : goal.invariant-loop-source
invariant-loop-source l = (end : SaidValue)
    → Through (SaysSource (map (λ name. name.now) l.names) (map view l.files) l.tables) (drop l.source-index l.sources) l.said end
    → Through (SaysSource (map (λ name. name.now) l.names) (map view l.files) l.tables) l.sources l.fn.said end
