use Rattle.std.proofs.Common.{drop, map}
use Rattle.serde_json.specs.View.{view}
use Rattle.tiles_said.specs.Said.{SaidValue, SaysPair, Through}
use Rattle.tiles_said.proofs.said.say_source.Given as goal

-- what the tables that are left make of what is said so far is what all make of the beginning
abbrev pub invariant-loop-table : goal.invariant-loop-table
invariant-loop-table l = (end : SaidValue)
    → Through (SaysPair (map (λ name. name.now) l.names) (map view l.files) l.source) (drop l.table-index l.tables) l.said end
    → Through (SaysPair (map (λ name. name.now) l.names) (map view l.files) l.source) l.tables l.fn.said end
