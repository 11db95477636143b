use Rattle.std.proofs.Common.{◌∷◌, drop, false, map}
use Rattle.serde_json.specs.View.{items_of}
use Rattle.serde_json.specs.Written.{items_text}
use Rattle.json_pieces.specs.Telling.{IsToldUpTo, at}
use Rattle.check_said.specs.Json.{finding_data}
use Rattle.check_said.proofs.changes.put_findings.Given as goal

-- what is told and what is left are the whole
abbrev pub invariant-loop-found : goal.invariant-loop-found
invariant-loop-found g l = IsToldUpTo (at (g.O.Out.written l.fn.out) l.fn.line) (at (g.O.Out.written l.out) l.line) (91 ∷ items_text false (items_of (map (finding_data l.check) l.findings))) (items_text l.later (items_of (map (finding_data l.check) (drop l.found-index l.findings))))
