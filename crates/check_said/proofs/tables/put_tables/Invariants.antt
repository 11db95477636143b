use Rattle.std.proofs.Common.{◌∷◌, drop, false}
use Rattle.serde_json.specs.View.{items_of}
use Rattle.serde_json.specs.Written.{items_text}
use Rattle.json_pieces.specs.Telling.{IsToldUpTo, at}
use Rattle.check_said.specs.Json.{tables_from}
use Rattle.check_said.proofs.tables.put_tables.Given as goal

-- what is told and what is left are the whole
abbrev pub invariant-loop-t : goal.invariant-loop-t
invariant-loop-t g l =
    IsToldUpTo (at (g.O.Out.written l.fn.out) l.fn.line) (at (g.O.Out.written l.out) l.line) (91 ∷ items_text false (items_of (tables_from l.fn.rows l.fn.rows.rows 0 l.fn.rows.plan.tables)))
    (items_text l.later (items_of (tables_from l.fn.rows l.fn.rows.rows l.t (drop l.t l.fn.rows.plan.tables))))
