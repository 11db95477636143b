use Rattle.std.proofs.Common.{◌∷◌, drop, false, map}
use Rattle.serde_json.specs.View.{items_of}
use Rattle.serde_json.specs.Written.{items_text}
use Rattle.json_pieces.specs.Telling.{IsToldUpTo, at}
use Rattle.check_said.specs.Json.{passed_data}
use Rattle.check_said.proofs.file_notes.put_rules.Given as goal

-- what is told and what is left are the whole
abbrev pub invariant-loop-rule : goal.invariant-loop-rule
invariant-loop-rule g l = IsToldUpTo (at (g.O.Out.written l.fn.out) l.fn.line) (at (g.O.Out.written l.out) l.line) (91 ∷ items_text false (items_of (map (passed_data) l.rules))) (items_text l.later (items_of (map (passed_data) (drop l.rule-index l.rules))))
