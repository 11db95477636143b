use Rattle.std.proofs.Common.{◌∷◌, drop, false, map}
use Rattle.serde_json.specs.View.{items_of}
use Rattle.serde_json.specs.Written.{items_text}
use Rattle.json_pieces.specs.Telling.{IsToldUpTo, at}
use Rattle.check_said.specs.Json.{name_data}
use Rattle.check_said.proofs.tables.put_names.Given as goal

-- what is told and what is left are the whole
abbrev pub invariant-loop-name : goal.invariant-loop-name
invariant-loop-name g l = IsToldUpTo (at (g.O.Out.written l.fn.out) l.fn.line) (at (g.O.Out.written l.out) l.line) (91 ∷ items_text false (items_of (map (λ name. name_data l.plan name.now) l.names))) (items_text l.later (items_of (map (λ name. name_data l.plan name.now) (drop l.name-index l.names))))
