use Rattle.std.proofs.Common.{map}
use Rattle.serde_json.specs.View.{view}
use Rattle.vdiff.proofs.JsonLaws.{AreMadeTo}
use Rattle.vdiff.proofs.json_differences.differences_value.Given as goal

-- the differences so far
abbrev pub invariant-loop : goal.invariant-loop
invariant-loop l = AreMadeTo l.fn.tables l.fn.count l.counter l.fn.source l.fn.target l.left l.right (map view l.differences.items)
